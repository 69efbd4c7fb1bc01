use Rattle.std.proofs.Common.{subst}
use Rattle.boot_machine.specs.Prelude.{seen}
use Rattle.image_writer.specs.Sourced.{planned_image}
use Rattle.image_writer.proofs.PlannedImages.{planned_image-is}
use Rattle.install_steps.specs.Steps.{IsDone, StepsTo}
use Rattle.install_steps.proofs.StepLemmas.{ok_then}
use Rattle.command_plans.proofs.Effects.{written_rested}
use Rattle.command_plans.proofs.performing.write.Goals as goal

pub returns-clause-done : goal.returns-clause-done
returns-clause-done g c =
    let s = g.M.Machine.state c.args.machine.now in
    ok_then c.write_planned.result c.write_planned.ensures.done
    (λ done told firm.
    subst (IsDone (g.M.Machine.state c.write_planned.new.machine)) (written_rested s c.args.image.now c.args.sources.now c.args.target.now.path (c.requires.ready told).rested)
    (done told firm (planned_image c.args.image.now c.args.sources.now (seen s)) (planned_image-is c.args.image.now c.args.sources.now (seen s))))

pub returns-clause-step : goal.returns-clause-step
returns-clause-step g c told firm =
    let s = g.M.Machine.state c.args.machine.now in
    subst (λ next. StepsTo g.M.Machine.time g.M.Machine.state next c.args.machine.now c.write_planned.new.machine)
    (written_rested s c.args.image.now c.args.sources.now c.args.target.now.path (c.requires.ready told).rested)
    (c.write_planned.ensures.step told firm (planned_image c.args.image.now c.args.sources.now (seen s)) (planned_image-is c.args.image.now c.args.sources.now (seen s)))
