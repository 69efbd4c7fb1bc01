use Rattle.std.proofs.Common.{subst, ap, arith, ℕ, List, length}
use Rattle.install_steps.specs.Steps.{IsDone, StepsTo}
use Rattle.install_steps.specs.proofs.AppendLaws.{contents-view}
use Rattle.install_steps.proofs.StepLemmas.{ok_then}
use Rattle.command_plans.proofs.Effects.{copied_rested, copies, small_rested}
use Rattle.command_plans.proofs.performing.copy.Goals as goal

pub write_whole-requires-clause-small : goal.write_whole-requires-clause-small
write_whole-requires-clause-small g c told =
    small_rested (g.M.Machine.state c.args.machine.now) c.args.from.now c.args.target.now.path (c.requires.ready told).rested (c.requires.small told)

pub returns-clause-done : goal.returns-clause-done
returns-clause-done g c =
    let s = g.M.Machine.state c.args.machine.now in
    ok_then c.write_whole.result c.write_whole.ensures.done
    (λ done told firm.
    subst (IsDone (g.M.Machine.state c.write_whole.new.machine)) (copied_rested s c.args.from.now c.args.target.now.path (c.requires.ready told).rested (c.requires.there told))
    (done told firm))

pub returns-clause-step : goal.returns-clause-step
returns-clause-step g c told firm =
    let s = g.M.Machine.state c.args.machine.now in
    subst (λ next. StepsTo g.M.Machine.time g.M.Machine.state next c.args.machine.now c.write_whole.new.machine)
    (copied_rested s c.args.from.now c.args.target.now.path (c.requires.ready told).rested (c.requires.there told))
    (c.write_whole.ensures.step told firm)

pub returns-clause-found : goal.returns-clause-found
returns-clause-found g c is told =
    copies (g.M.Machine.state c.args.machine.now) c.args.from.now c.args.target.now.path (c.requires.ready told).rested (c.requires.there told) (c.write_whole.ensures.not_found is told).0

pub returns-clause-taken : goal.returns-clause-taken
returns-clause-taken g c told =
    let same = ap (λ (bytes : List ℕ). length bytes) (contents-view (g.M.Machine.state c.args.machine.now).files c.args.from.now c.know.ensures.lasting) in
    omega (arith, same, c.write_whole.ensures.taken told)
