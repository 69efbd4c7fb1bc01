use Rattle.std.proofs.Common.{◌≡◌, inl, inr, refl, ap, ◌∙◌, rules, [], ◌∷◌, IsTrue}
use Rattle.std.specs.FinMap as map
use Rattle.boot_machine.specs.Prelude.{recovered_view, move_in, IsFirm}
use Rattle.boot_machine.proofs.Recovering.{calm-removed}
use Rattle.boot_machine.proofs.Views.{has-removed, temps-move_in}
use Rattle.install_steps.proofs.MoveLemmas.{apart_of, intended_view, intended_there, moved_view, dropped_view, intent_there}
use Rattle.install_steps.proofs.StepLemmas.{steps_part, steps_then, done_after, ok_both}
use Rattle.install_steps.proofs.QuietLemmas.{alone_by, quiet_of, quiet_then, quiet_bare}
use Rattle.install_steps.specs.Steps.{StepsTo}
use Rattle.install_steps.proofs.moves.move_intended.Given as given
use Rattle.install_steps.proofs.moves.move_intended.Goals.{After-rename_synced}
use Rattle.install_steps.proofs.moves.move_intended.Goals as goal

module _ (g : given.Over) where
  open g.M.Machine use {tells, time, state}

  -- boot sees the move once the file is renamed
  moved : (c : After-rename_synced g) → IsTrue tells
      → recovered_view (move_in c.args.from.now c.args.to.now (state c.put_intent.new.machine).files)
      ≡ move_in c.args.from.now c.args.to.now (recovered_view (state c.args.machine.now).files)
  moved c told = moved_view (state c.args.machine.now).files (state c.put_intent.new.machine).files c.args.from.now c.args.to.now
      (c.requires.ready told).rested (c.in_ok-put_intent.ensures.intends told)

  -- the intent is put in its place, and then it is renamed
  renamed : (c : After-rename_synced g) → IsTrue tells → IsFirm (state c.args.machine.now)
      → StepsTo time state (move_in c.args.from.now c.args.to.now (recovered_view (state c.args.machine.now).files))
      c.args.machine.now c.rename_synced.new.machine
  renamed c told firm =
      let s = state c.args.machine.now in
      let step = c.put_intent.ensures.step told firm in
      let first = steps_part time state _ (recovered_view s.files) c.args.machine.now c.put_intent.new.machine (inl refl) step in
      let stood = intended_view s.files (state c.put_intent.new.machine).files c.args.from.now c.args.to.now
      (c.requires.ready told).rested (c.in_ok-put_intent.ensures.intends told) (c.requires.none told) in
      steps_then time state _ _ c.args.machine.now c.put_intent.new.machine c.rename_synced.new.machine first
      (c.put_intent.ensures.alone.keeps told).printed (inl stood) (inr (moved c told)) (c.rename_synced.ensures.step told step.firm)

pub put_intent-requires-clause-differ : goal.put_intent-requires-clause-differ
put_intent-requires-clause-differ g c told =
    apart_of (g.M.Machine.state c.args.machine.now).files c.args.from.now c.args.to.now (c.requires.there told) (c.requires.none told)

pub returns-in_err-put_intent-clause-step : goal.returns-in_err-put_intent-clause-step
returns-in_err-put_intent-clause-step g c told firm =
    steps_part g.M.Machine.time g.M.Machine.state _ (recovered_view (g.M.Machine.state c.args.machine.now).files)
    c.args.machine.now c.put_intent.new.machine (inl refl) (c.put_intent.ensures.step told firm)

pub rename_synced-requires-clause-there : goal.rename_synced-requires-clause-there
rename_synced-requires-clause-there g c told =
    intended_there (g.M.Machine.state c.args.machine.now).files _ c.args.from.now c.args.to.now (c.requires.ready told).rested
    (c.in_ok-put_intent.ensures.intends told) (c.requires.there told)

pub rename_synced-requires-clause-named : goal.rename_synced-requires-clause-named
rename_synced-requires-clause-named g c told = (c.in_ok-put_intent.ensures.intends told).named

pub returns-in_err-rename_synced-clause-step : goal.returns-in_err-rename_synced-clause-step
returns-in_err-rename_synced-clause-step g c =
    renamed g (goal.at.returns-in_err-rename_synced-clause-step g c).After-rename_synced

pub unlink_synced-requires-clause-there : goal.unlink_synced-requires-clause-there
unlink_synced-requires-clause-there g c told =
    rw (c.requires.intent.0, c.in_ok-rename_synced.ensures.files told)
    (intent_there (g.M.Machine.state c.args.machine.now).files _ c.args.from.now c.args.to.now (c.requires.ready told).rested
    (c.in_ok-put_intent.ensures.intends told))

pub returns-clause-step : goal.returns-clause-step
returns-clause-step g c told firm =
    let renamed_at = (goal.at.returns-clause-step g c).After-rename_synced in
    let second = renamed g renamed_at told firm in
    let s = g.M.Machine.state c.args.machine.now in
    let m = g.M.Machine.state c.put_intent.new.machine in
    let next = move_in c.args.from.now c.args.to.now (recovered_view s.files) in
    let files = c.in_ok-rename_synced.ensures.files told in
    let sees = ap recovered_view files ∙ moved g renamed_at told in
    let without : recovered_view (map.remove (g.M.Machine.state c.rename_synced.new.machine).files c.args.intent.now.path) ≡ next =
    rw (c.requires.intent.0, files)
    (dropped_view s.files m.files c.args.from.now c.args.to.now (c.requires.ready told).rested (c.in_ok-put_intent.ensures.intends told)) in
    let printed = (c.rename_synced.ensures.alone.keeps told).printed ∙ (c.put_intent.ensures.alone.keeps told).printed in
    steps_then g.M.Machine.time g.M.Machine.state next _ c.args.machine.now c.rename_synced.new.machine c.unlink_synced.new.machine
    second printed (inr sees) (inr without) (c.unlink_synced.ensures.step told second.firm)

pub returns-clause-done : goal.returns-clause-done
returns-clause-done g c = ok_both c.unlink_synced.result c.unlink_synced.ensures.files c.unlink_synced.ensures.one (λ removed one told firm.
    let s = g.M.Machine.state c.args.machine.now in
    let m = g.M.Machine.state c.put_intent.new.machine in
    let next = move_in c.args.from.now c.args.to.now (recovered_view s.files) in
    let is : recovered_view (g.M.Machine.state c.unlink_synced.new.machine).files ≡ next =
    rw (removed told, c.requires.intent.0, c.in_ok-rename_synced.ensures.files told)
    (dropped_view s.files m.files c.args.from.now c.args.to.now (c.requires.ready told).rested (c.in_ok-put_intent.ensures.intends told)) in
    done_after g.M.Machine.time g.M.Machine.state next c.args.machine.now c.unlink_synced.new.machine
    (g.met.M.Machine.sound c.unlink_synced.new.machine told) (returns-clause-step g c told firm) (one told) is)

pub returns-clause-ready : goal.returns-clause-ready
returns-clause-ready g c = ok_both c.unlink_synced.result c.unlink_synced.ensures.files c.unlink_synced.ensures.one (λ removed one told. record {
  next = record {
    one = one told;
    rested = rw (removed told, c.requires.intent.0) (calm-removed (g.M.Machine.state c.rename_synced.new.machine).files);
  };
  temps = λ q temp there.
      let kept = has-removed (g.M.Machine.state c.rename_synced.new.machine).files c.args.intent.now.path q (rw (removed told) at there) in
      c.in_ok-put_intent.ensures.temps told q temp
      (temps-move_in (g.M.Machine.state c.put_intent.new.machine).files c.args.from.now c.args.to.now c.know-2.ensures.lasting q temp (rw (c.in_ok-rename_synced.ensures.files told) at kept));
})

pub returns-in_err-rename_synced-clause-alone : goal.returns-in_err-rename_synced-clause-alone
returns-in_err-rename_synced-clause-alone g c = alone_by (λ told.
    let put = quiet_of c.put_intent.ensures.alone told in
    quiet_then _ _ _ _ _ put (quiet_bare (c.args.intent.now.temp ∷ []) c.rename_synced.ensures.alone told)) (search rules)

pub returns-clause-alone : goal.returns-clause-alone
returns-clause-alone g c = alone_by (λ told.
    let put = quiet_of c.put_intent.ensures.alone told in
    let renamed = quiet_then _ _ _ _ _ put (quiet_bare (c.args.intent.now.temp ∷ []) c.rename_synced.ensures.alone told) in
    quiet_then _ _ _ _ _ renamed (quiet_bare (c.args.intent.now.temp ∷ []) c.unlink_synced.ensures.alone told)) (search rules)
