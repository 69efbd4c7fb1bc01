use Rattle.std.proofs.Common.{subst}
use Rattle.install_steps.specs.Steps.{IsDone, StepsTo}
use Rattle.install_steps.proofs.StepLemmas.{ok_then}
use Rattle.command_plans.proofs.Effects.{put_rested}
use Rattle.command_plans.proofs.performing.put.Goals as goal

pub returns-clause-done : goal.returns-clause-done
returns-clause-done g c =
    ok_then c.write_bytes.result c.write_bytes.ensures.done
    (λ done told firm.
    subst (IsDone (g.M.Machine.state c.write_bytes.new.machine))
    (put_rested (g.M.Machine.state c.args.machine.now) c.args.target.now.path c.args.bytes.now (c.requires.ready told).rested) (done told firm))

pub returns-clause-step : goal.returns-clause-step
returns-clause-step g c told firm =
    subst (λ next. StepsTo g.M.Machine.time g.M.Machine.state next c.args.machine.now c.write_bytes.new.machine)
    (put_rested (g.M.Machine.state c.args.machine.now) c.args.target.now.path c.args.bytes.now (c.requires.ready told).rested) (c.write_bytes.ensures.step told firm)
