use Rattle.std.proofs.Common.{refl, inl, sym, ap, ◌∙◌, subst, rules, Err}
use Rattle.boot_machine.specs.Prelude.{seen}
use Rattle.boot_machine.proofs.Elapsing.{at_once}
use Rattle.boot_machine.proofs.Recovering.{recovered_view-calm}
use Rattle.boot_machine.proofs.Seeing.{sees, only_view}
use Rattle.install_steps.specs.Steps.{IsDone, StepsTo}
use Rattle.install_steps.proofs.QuietLemmas.{alone_by, quiet_start}
use Rattle.command_plans.specs.Prelude.{effect, own_temps}
use Rattle.command_plans.specs.declared.plan.Change.TheVariants.{Nothing}
use Rattle.command_plans.proofs.Effects.{left_rested, moved_rested, moves, moves_over_none, removed_rested, removes}
use Rattle.command_plans.proofs.performing.apply.Goals as goal

pub returns-in-Nothing-clause-done : goal.returns-in-Nothing-clause-done
returns-in-Nothing-clause-done g c told firm =
    let s = g.M.Machine.state c.args.machine.now in
    let calm = recovered_view-calm s.files (c.requires.ready told).rested in
    let same : IsDone s (effect (seen s) Nothing) = record {
      one = (c.requires.ready told).one;
      firm = firm;
      images = λ m image. only_view s _ (c.requires.ready told).one (sees s (g.met.M.Machine.sound c.args.machine.now told) firm m image) ∙ calm;
      files = calm;
    } in
    subst (λ change. IsDone s (effect (seen s) change)) (sym c.in-Nothing.is) same

pub returns-in-Nothing-clause-step : goal.returns-in-Nothing-clause-step
returns-in-Nothing-clause-step g c told firm =
    let old = c.args.machine.now in
    let s = g.M.Machine.state old in
    record {
      moments = at_once g.M.Machine.time g.M.Machine.state _ old
          (λ m o left. let now = g.met.M.Machine.only_now old m o told left in (inl (only_view s _ (c.requires.ready told).one (sees s (g.met.M.Machine.sound old told) firm m now.0)), now.1));
      firm = firm;
      files = inl refl;
    }

pub returns-in-Nothing-clause-alone : goal.returns-in-Nothing-clause-alone
returns-in-Nothing-clause-alone g c =
    alone_by
    (λ told. quiet_start g.M.Machine.time g.M.Machine.state (own_temps c.args.change.now) c.args.machine.now
    (λ m o. g.met.M.Machine.only_now c.args.machine.now m o told))
    (search rules)

pub returns-in-Ok-clause-done : goal.returns-in-Ok-clause-done
returns-in-Ok-clause-done g c told firm =
    let s = g.M.Machine.state c.args.machine.now in
    subst (IsDone (g.M.Machine.state c.drop_name.new.machine))
    (removed_rested s c.args.change.now (c.requires.ready told).rested c.in-Remove.path c.in-Remove.gone c.in-Remove.is)
    (c.in-Ok.ensures.done told firm)

pub returns-in-Ok-clause-step : goal.returns-in-Ok-clause-step
returns-in-Ok-clause-step g c told firm =
    let s = g.M.Machine.state c.args.machine.now in
    subst (λ next. StepsTo g.M.Machine.time g.M.Machine.state next c.args.machine.now c.drop_name.new.machine)
    (removed_rested s c.args.change.now (c.requires.ready told).rested c.in-Remove.path c.in-Remove.gone c.in-Remove.is)
    (c.drop_name.ensures.step told firm)

pub returns-in-Err-Disk-clause-step : goal.returns-in-Err-Disk-clause-step
returns-in-Err-Disk-clause-step g c told firm =
    let s = g.M.Machine.state c.args.machine.now in
    subst (λ next. StepsTo g.M.Machine.time g.M.Machine.state next c.args.machine.now c.drop_name.new.machine)
    (removed_rested s c.args.change.now (c.requires.ready told).rested c.in-Remove.path c.in-Remove.gone c.in-Remove.is)
    (c.drop_name.ensures.step told firm)

pub returns-in-Err-NotFound-clause-done : goal.returns-in-Err-NotFound-clause-done
returns-in-Err-NotFound-clause-done g c told firm =
    absurd
    (removes (g.M.Machine.state c.args.machine.now) c.args.change.now (c.requires.ready told).rested c.in-Remove.path c.in-Remove.gone c.in-Remove.is (c.requires.there told)
    (c.in-Err-NotFound.ensures.not_found (ap Err c.in-Err-NotFound.field-0-is) told).0)

pub returns-in-Err-NotFound-clause-made : goal.returns-in-Err-NotFound-clause-made
returns-in-Err-NotFound-clause-made g c told =
    absurd
    (removes (g.M.Machine.state c.args.machine.now) c.args.change.now (c.requires.ready told).rested c.in-Remove.path c.in-Remove.gone c.in-Remove.is (c.requires.there told)
    (c.in-Err-NotFound.ensures.not_found (ap Err c.in-Err-NotFound.field-0-is) told).0)

pub returns-in-Err-NotFound-clause-step : goal.returns-in-Err-NotFound-clause-step
returns-in-Err-NotFound-clause-step g c told firm =
    let s = g.M.Machine.state c.args.machine.now in
    subst (λ next. StepsTo g.M.Machine.time g.M.Machine.state next c.args.machine.now c.drop_name.new.machine)
    (removed_rested s c.args.change.now (c.requires.ready told).rested c.in-Remove.path c.in-Remove.gone c.in-Remove.is)
    (c.drop_name.ensures.step told firm)

pub returns-in_err-drop_leftovers-in-Leftovers-clause-step : goal.returns-in_err-drop_leftovers-in-Leftovers-clause-step
returns-in_err-drop_leftovers-in-Leftovers-clause-step g c told firm =
    let s = g.M.Machine.state c.args.machine.now in
    subst (λ next. StepsTo g.M.Machine.time g.M.Machine.state next c.args.machine.now c.drop_leftovers.new.machine)
    (left_rested s c.args.change.now (c.requires.ready told).rested c.in-Leftovers.temps c.in-Leftovers.is)
    (c.drop_leftovers.ensures.step told firm)

pub returns-in_ok-drop_leftovers-in-Leftovers-clause-done : goal.returns-in_ok-drop_leftovers-in-Leftovers-clause-done
returns-in_ok-drop_leftovers-in-Leftovers-clause-done g c told firm =
    let s = g.M.Machine.state c.args.machine.now in
    subst (IsDone (g.M.Machine.state c.drop_leftovers.new.machine))
    (left_rested s c.args.change.now (c.requires.ready told).rested c.in-Leftovers.temps c.in-Leftovers.is)
    (c.in_ok-drop_leftovers-in-Leftovers.ensures.done told firm)

pub returns-in_ok-drop_leftovers-in-Leftovers-clause-step : goal.returns-in_ok-drop_leftovers-in-Leftovers-clause-step
returns-in_ok-drop_leftovers-in-Leftovers-clause-step g c told firm =
    let s = g.M.Machine.state c.args.machine.now in
    subst (λ next. StepsTo g.M.Machine.time g.M.Machine.state next c.args.machine.now c.drop_leftovers.new.machine)
    (left_rested s c.args.change.now (c.requires.ready told).rested c.in-Leftovers.temps c.in-Leftovers.is)
    (c.drop_leftovers.ensures.step told firm)

pub returns-in-Ok-move_name-clause-done : goal.returns-in-Ok-move_name-clause-done
returns-in-Ok-move_name-clause-done g c told firm =
    let s = g.M.Machine.state c.args.machine.now in
    let move = c.in-Move in
    subst (IsDone (g.M.Machine.state c.move_name.new.machine))
    (moved_rested s c.args.change.now (c.requires.ready told).rested move.from move.to move.intent move.gone move.exists move.is (c.requires.there told))
    (c.in-Ok-move_name.ensures.done told firm)

pub returns-in-Ok-move_name-clause-step : goal.returns-in-Ok-move_name-clause-step
returns-in-Ok-move_name-clause-step g c told firm =
    let s = g.M.Machine.state c.args.machine.now in
    let move = c.in-Move in
    subst (λ next. StepsTo g.M.Machine.time g.M.Machine.state next c.args.machine.now c.move_name.new.machine)
    (moved_rested s c.args.change.now (c.requires.ready told).rested move.from move.to move.intent move.gone move.exists move.is (c.requires.there told)) (c.move_name.ensures.step told firm)

pub returns-in-Err-Disk-move_name-clause-step : goal.returns-in-Err-Disk-move_name-clause-step
returns-in-Err-Disk-move_name-clause-step g c told firm =
    let s = g.M.Machine.state c.args.machine.now in
    let move = c.in-Move in
    subst (λ next. StepsTo g.M.Machine.time g.M.Machine.state next c.args.machine.now c.move_name.new.machine)
    (moved_rested s c.args.change.now (c.requires.ready told).rested move.from move.to move.intent move.gone move.exists move.is (c.requires.there told)) (c.move_name.ensures.step told firm)

pub returns-in-Err-NotFound-move_name-clause-done : goal.returns-in-Err-NotFound-move_name-clause-done
returns-in-Err-NotFound-move_name-clause-done g c told firm =
    let move = c.in-Move in
    absurd
    (moves (g.M.Machine.state c.args.machine.now) c.args.change.now (c.requires.ready told).rested move.from move.to move.intent move.gone move.exists move.is (c.requires.there told)
    (c.in-Err-NotFound-move_name.ensures.not_found (ap Err c.in-Err-NotFound-move_name.field-0-is) told).0)

pub returns-in-Err-NotFound-move_name-clause-made : goal.returns-in-Err-NotFound-move_name-clause-made
returns-in-Err-NotFound-move_name-clause-made g c told =
    let move = c.in-Move in
    absurd
    (moves (g.M.Machine.state c.args.machine.now) c.args.change.now (c.requires.ready told).rested move.from move.to move.intent move.gone move.exists move.is (c.requires.there told)
    (c.in-Err-NotFound-move_name.ensures.not_found (ap Err c.in-Err-NotFound-move_name.field-0-is) told).0)

pub returns-in-Err-NotFound-move_name-clause-step : goal.returns-in-Err-NotFound-move_name-clause-step
returns-in-Err-NotFound-move_name-clause-step g c told firm =
    let s = g.M.Machine.state c.args.machine.now in
    let move = c.in-Move in
    subst (λ next. StepsTo g.M.Machine.time g.M.Machine.state next c.args.machine.now c.move_name.new.machine)
    (moved_rested s c.args.change.now (c.requires.ready told).rested move.from move.to move.intent move.gone move.exists move.is (c.requires.there told)) (c.move_name.ensures.step told firm)

pub returns-in-Err-TargetExists-clause-done : goal.returns-in-Err-TargetExists-clause-done
returns-in-Err-TargetExists-clause-done g c told firm =
    let move = c.in-Move in
    absurd
    (moves_over_none (g.M.Machine.state c.args.machine.now) c.args.change.now (c.requires.ready told).rested move.from move.to move.intent move.gone move.exists move.is (c.requires.there told)
    (c.in-Err-TargetExists.ensures.exists (ap Err c.in-Err-TargetExists.field-0-is) told).1)

pub returns-in-Err-TargetExists-clause-made : goal.returns-in-Err-TargetExists-clause-made
returns-in-Err-TargetExists-clause-made g c told =
    let move = c.in-Move in
    absurd
    (moves_over_none (g.M.Machine.state c.args.machine.now) c.args.change.now (c.requires.ready told).rested move.from move.to move.intent move.gone move.exists move.is (c.requires.there told)
    (c.in-Err-TargetExists.ensures.exists (ap Err c.in-Err-TargetExists.field-0-is) told).1)

pub returns-in-Err-TargetExists-clause-step : goal.returns-in-Err-TargetExists-clause-step
returns-in-Err-TargetExists-clause-step g c told firm =
    let s = g.M.Machine.state c.args.machine.now in
    let move = c.in-Move in
    subst (λ next. StepsTo g.M.Machine.time g.M.Machine.state next c.args.machine.now c.move_name.new.machine)
    (moved_rested s c.args.change.now (c.requires.ready told).rested move.from move.to move.intent move.gone move.exists move.is (c.requires.there told)) (c.move_name.ensures.step told firm)
