use Rattle.std.proofs.Common.{◌≡◌, inr, sym, ap, ◌∙◌, subst, rules, [], ◌∷◌, IsTrue, true, false, IsErrOf}
use Rattle.boot_machine.specs.Prelude.{State, recovered_view, has, move_in, IsFirm}
use Rattle.boot_machine.proofs.Recovering.{has-recovered_view}
use Rattle.install_steps.specs.Steps.{IsDone, after_move, StepsTo}
use Rattle.install_steps.specs.declared.faults.MoveFault.TheVariants.{NotFound, TargetExists}
use Rattle.install_steps.proofs.RefusedLemmas.{moved_there}
use Rattle.install_steps.proofs.StepLemmas.{goes-reads, steps_to, steps_behind}
use Rattle.install_steps.proofs.QuietLemmas.{alone_by, quiet_of, quiet_reads, quiet_then}
use Rattle.install_steps.proofs.MachineLemmas.{quiet_here, starts}
use Rattle.install_steps.proofs.moves.move_name.Given as given
use Rattle.install_steps.proofs.moves.move_name.Goals.{After-move_intended, In_ok-allow_move}
use Rattle.install_steps.proofs.moves.move_name.Goals as goal

module _ (g : given.Over) where
  open g.M.Machine use {tells, time, state}

  -- boot sees the first file, and none at the new name
  found : (c : In_ok-allow_move g) → IsTrue tells → (has (recovered_view (state c.args.machine.now).files) c.args.from.now ≡ true)
      × (has (recovered_view (state c.args.machine.now).files) c.args.to.now ≡ false)
  found c told =
      let m = (state c.args.machine.now).files in
      let calm = (c.requires.ready told).rested in
      let found = c.in_ok-allow_move.ensures.found told in (
        rw (has-recovered_view m c.args.from.now calm c.know.ensures.lasting) found.0,
        rw (has-recovered_view m c.args.to.now calm c.know-2.ensures.lasting) found.1,
      )

  -- and sees it moved
  moved : (c : In_ok-allow_move g) → IsTrue tells
      → after_move c.args.from.now c.args.to.now (recovered_view (state c.args.machine.now).files)
      ≡ move_in c.args.from.now c.args.to.now (recovered_view (state c.args.machine.now).files)
  moved c told =
      moved_there c.args.from.now c.args.to.now (recovered_view (state c.args.machine.now).files) (found c told).0 (found c told).1

  stepped : (c : In_ok-allow_move g) → IsTrue tells → IsFirm (state c.args.machine.now) → (new : g.row.M.Denot)
      → (IsFirm (state c.allow_move.new.machine) → StepsTo time state
      (move_in c.args.from.now c.args.to.now (recovered_view (state c.allow_move.new.machine).files)) c.allow_move.new.machine new)
      → StepsTo time state (after_move c.args.from.now c.args.to.now (recovered_view (state c.args.machine.now).files)) c.args.machine.now new
  stepped c told firm new step =
      let start = starts g.met.M.Machine told c.args.machine.now _ firm (c.requires.ready told).one in
      let same = (c.allow_move.ensures.looks.reads told).same in
      let first = steps_to _ _ _ _ _ (goes-reads _ _ _ _ _ _ start (c.allow_move.ensures.looks.reads told)) in
      let is = ap (λ (t : State). move_in c.args.from.now c.args.to.now (recovered_view t.files)) same ∙ sym (moved c told) in
      steps_behind _ _ _ _ _ _ _ first same (inr is) (step first.firm)

pub returns-in_err-allow_move-clause-step : goal.returns-in_err-allow_move-clause-step
returns-in_err-allow_move-clause-step g c told firm =
    let s = g.M.Machine.state c.args.machine.now in
    let next = after_move c.args.from.now c.args.to.now (recovered_view s.files) in
    let start = starts g.met.M.Machine told c.args.machine.now next firm (c.requires.ready told).one in
    steps_to _ _ _ _ _ (goes-reads _ _ _ _ _ _ start (c.allow_move.ensures.looks.reads told))

pub returns-in_err-allow_move-clause-alone : goal.returns-in_err-allow_move-clause-alone
returns-in_err-allow_move-clause-alone g c = alone_by (λ told.
    let start = quiet_here g.met.M.Machine told c.args.machine.now (c.args.intent.now.temp ∷ []) in
    quiet_reads _ _ _ _ _ start (c.allow_move.ensures.looks.reads told)) (search rules)

pub returns-in_err-allow_move-clause-not_found : goal.returns-in_err-allow_move-clause-not_found
returns-in_err-allow_move-clause-not_found g c = λ err told.
    let m = (g.M.Machine.state c.args.machine.now).files in
    let is : IsErrOf c.allow_move.result NotFound = search rules in
    let none = c.allow_move.ensures.not_found is told in
    (rw (has-recovered_view m c.args.from.now (c.requires.ready told).rested c.know.ensures.lasting) none, (c.allow_move.ensures.looks.reads told).same)

pub returns-in_err-allow_move-clause-exists : goal.returns-in_err-allow_move-clause-exists
returns-in_err-allow_move-clause-exists g c = λ err told.
    let m = (g.M.Machine.state c.args.machine.now).files in
    let calm = (c.requires.ready told).rested in
    let is : IsErrOf c.allow_move.result TargetExists = search rules in
    let both = c.allow_move.ensures.exists is told in (
      rw (has-recovered_view m c.args.from.now calm c.know.ensures.lasting) both.0,
      rw (has-recovered_view m c.args.to.now calm c.know-2.ensures.lasting) both.1,
      (c.allow_move.ensures.looks.reads told).same,
    )

pub move_intended-requires : goal.move_intended-requires
move_intended-requires g c = record {
  intent = c.requires.intent;
  ready = λ told. rw ((c.allow_move.ensures.looks.reads told).same) (c.requires.ready told);
  there = λ told. rw ((c.allow_move.ensures.looks.reads told).same) (c.in_ok-allow_move.ensures.found told).0;
  none = λ told. rw ((c.allow_move.ensures.looks.reads told).same) (c.in_ok-allow_move.ensures.found told).1;
}

pub returns-in_err-move_intended-clause-step : goal.returns-in_err-move_intended-clause-step
returns-in_err-move_intended-clause-step g c told firm =
    stepped g (goal.at.returns-in_err-move_intended-clause-step g c).In_ok-allow_move told firm _ (c.move_intended.ensures.step told)

pub returns-in_err-move_intended-clause-alone : goal.returns-in_err-move_intended-clause-alone
returns-in_err-move_intended-clause-alone g c = alone_by (λ told.
    let start = quiet_here g.met.M.Machine told c.args.machine.now (c.args.intent.now.temp ∷ []) in
    let looked = quiet_reads _ _ _ _ _ start (c.allow_move.ensures.looks.reads told) in
    quiet_then _ _ _ _ _ looked (quiet_of c.move_intended.ensures.alone told)) (search rules)

pub returns-clause-step : goal.returns-clause-step
returns-clause-step g c told firm =
    stepped g (goal.at.returns-clause-step g c).In_ok-allow_move told firm _ (c.move_intended.ensures.step told)

pub returns-clause-done : goal.returns-clause-done
returns-clause-done g c told firm =
    let same = (c.allow_move.ensures.looks.reads told).same in
    let done = c.in_ok-move_intended.ensures.done told (rw same firm) in
    let is = moved g (goal.at.returns-clause-done g c).In_ok-allow_move told in
    subst (IsDone (g.M.Machine.state c.move_intended.new.machine)) (sym is) (rw same at done)

pub returns-clause-found : goal.returns-clause-found
returns-clause-found g c told = found g (goal.at.returns-clause-found g c).In_ok-allow_move told

pub returns-clause-alone : goal.returns-clause-alone
returns-clause-alone g c = alone_by (λ told.
    let start = quiet_here g.met.M.Machine told c.args.machine.now (c.args.intent.now.temp ∷ []) in
    let looked = quiet_reads _ _ _ _ _ start (c.allow_move.ensures.looks.reads told) in
    quiet_then _ _ _ _ _ looked (quiet_of c.move_intended.ensures.alone told)) (search rules)
