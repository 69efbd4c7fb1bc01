use Rattle.std.proofs.Common.{ap, sym, ◌∙◌}
use Rattle.boot_base.specs.Paths.{is_temp, is_file_name, file_name_of}
use Rattle.boot_base.proofs.TempNames.{temp_path-temp, temp_path-name}
use Rattle.boot_base.proofs.temp_path.TempPath.as_str.Goals as goal

pub returns-clause-passing : goal.returns-clause-passing
returns-clause-passing c = ap is_temp (sym c.self.view_is) ∙ temp_path-temp _ c.self.invariant

pub returns-clause-named : goal.returns-clause-named
returns-clause-named c = ap (λ path. is_file_name (file_name_of path)) (sym c.self.view_is) ∙ temp_path-name _ c.self.invariant
