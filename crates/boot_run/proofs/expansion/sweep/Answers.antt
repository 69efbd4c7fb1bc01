use Rattle.std.proofs.Common.{◌∙◌, rules, sym}
use Rattle.install_steps.proofs.MachineLemmas.{quiet_here, starts_same}
use Rattle.install_steps.proofs.QuietLemmas.{alone_by}
use Rattle.install_steps.proofs.StepLemmas.{steps_same}
use Rattle.boot_run.proofs.Sweeping.{none_lacks}
use Rattle.boot_run.proofs.expansion.sweep.Goals as goal

pub returns-then-is_empty-clause-step : goal.returns-then-is_empty-clause-step
returns-then-is_empty-clause-step g c told firm =
    steps_same g.M.Machine.time g.M.Machine.state _ _ _ (starts_same g.met.M.Machine told c.args.machine.now firm (c.requires.ready told).one)

pub returns-then-is_empty-clause-gone : goal.returns-then-is_empty-clause-gone
returns-then-is_empty-clause-gone g c told =
    none_lacks c.args.temps.now (g.M.Machine.state c.args.machine.now).files (sym c.is_empty.ensures ∙ c.if-is_empty.true)

pub returns-then-is_empty-clause-alone : goal.returns-then-is_empty-clause-alone
returns-then-is_empty-clause-alone g c =
    alone_by (λ told. quiet_here g.met.M.Machine told c.args.machine.now c.args.temps.now) (search rules)
