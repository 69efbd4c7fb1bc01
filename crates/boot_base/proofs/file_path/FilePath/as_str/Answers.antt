use Rattle.std.proofs.Common.{ap, sym, ◌∙◌}
use Rattle.boot_base.specs.Paths.{is_temp}
use Rattle.boot_base.proofs.Normal.{normal-temp}
use Rattle.boot_base.proofs.file_path.FilePath.as_str.Goals as goal

pub returns-clause-lasting : goal.returns-clause-lasting
returns-clause-lasting c = ap is_temp (sym c.self.view_is) ∙ normal-temp _ c.self.invariant
