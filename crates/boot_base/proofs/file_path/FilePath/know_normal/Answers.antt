use Rattle.std.proofs.Common.{ap, sym, ◌∙◌}
use Rattle.std.specs.Str.{is_utf8}
use Rattle.std.proofs.lemmas.Str.{IsUtf8-string_bytes, is_utf8-from_IsUtf8}
use Rattle.boot_base.proofs.file_path.FilePath.know_normal.Goals as goal

pub returns-clause-text : goal.returns-clause-text
returns-clause-text c = ap is_utf8 (sym c.self.view_is) ∙ is_utf8-from_IsUtf8 _ (IsUtf8-string_bytes c.self.inside.text)
