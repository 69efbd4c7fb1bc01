use Rattle.std.proofs.Common.{◌≡◌, rules, subst, sym}
use Rattle.pcr_values.specs.Prelude.{HasDistinctPaths, default_phase_paths}
use Rattle.pcr_values.proofs.Distinct.{default_phase_paths-distinct}
use Rattle.pcr_values.proofs.phase_path.default_paths.Goals as goal

pub returns-clause-distinct : goal.returns-clause-distinct
returns-clause-distinct c =
    let value : c.push-4.new.self.items ≡ default_phase_paths = search rules in
    subst HasDistinctPaths (sym value) default_phase_paths-distinct
