use Rattle.std.proofs.Common.{ap, sym, ◌∙◌}
use Rattle.boot_base.specs.Paths.{is_temp}
use Rattle.boot_base.proofs.TempNames.{temp_path-temp}
use Rattle.boot_base.proofs.temp_path.TempPath.know.Goals as goal

pub returns : goal.returns
returns c = ap is_temp (sym c.self.view_is) ∙ temp_path-temp _ c.self.invariant
