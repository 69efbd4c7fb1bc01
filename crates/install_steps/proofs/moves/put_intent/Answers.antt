use Rattle.install_steps.proofs.KeepLemmas.{own_alone}
use Rattle.std.proofs.Common.{◌≡◌, ◌∙◌, [], refl, sym, subst, rules, ◌∷◌, IsTrue}
use Rattle.std.specs.FinMap as map
use Rattle.boot_machine.specs.Prelude.{contents, move_in, IsFirm}
use Rattle.boot_machine.proofs.Going.{goes-create, During}
use Rattle.boot_machine.proofs.Written.{has-created}
use Rattle.install_steps.specs.Steps.{Intends}
use Rattle.install_steps.proofs.Appending.{appends-there}
use Rattle.install_steps.proofs.MoveLemmas.{intended_view}
use Rattle.install_steps.proofs.StepLemmas.{steps_same, ok_then, Same, steps_put}
use Rattle.install_steps.proofs.AppendLemmas.{goes-appends, contents-created}
use Rattle.install_steps.proofs.WrittenIntent.{grown_whole, intends_written, temps_put, may_stand_from}
use Rattle.install_steps.proofs.QuietLemmas.{alone_by, quiet-create, quiet_appends, quiet_of, quiet_then, Quiet}
use Rattle.install_steps.proofs.MachineLemmas.{only_here, quiet_here, starts_same}
use Rattle.install_steps.proofs.moves.put_intent.Given as given
use Rattle.install_steps.proofs.moves.put_intent.Goals.{After-append, In_ok-append}
use Rattle.install_steps.proofs.moves.put_intent.Goals as goal

module _ (g : given.Over) where
  open g.M.Machine use {tells, time, state}

  -- boot sees the same, while the intent is written
  written : (c : After-append g) → IsTrue tells → IsFirm (state c.args.machine.now)
      → During time state (Same (state c.args.machine.now)) c.args.machine.now c.append.new.machine
  written c told firm =
      let start = starts_same g.met.M.Machine told c.args.machine.now firm (c.requires.ready told).one in
      let made = goes-create _ _ _ _ _ _ c.create.result start (c.create.ensures.moments told) _ c.know.ensures (c.create.ensures.row told) in
      goes-appends _ _ _ _ _ _ made _ c.know.ensures (c.append.ensures.appends.only told)

  -- which says both names once it is in its place
  intends : (c : In_ok-append g) → IsTrue tells → Intends c.args.from.now c.args.to.now (state c.args.machine.now).files
      (move_in c.args.intent.now.temp c.args.intent.now.path (state c.append.new.machine).files)
  intends c told =
      let m = (state c.args.machine.now).files in
      let own = c.args.intent.now.temp in
      let mid = state c.create.new.self in
      let last = state c.append.new.machine in
      let from = c.know_normal.ensures in
      let to = c.know_normal-2.ensures in
      let created : mid.files ≡ map.insert m own [] = rw (c.in_ok-create.ensures.row told) refl in
      let none : contents mid.files own ≡ [] = rw (c.in_ok-create.ensures.row told) (contents-created m own) in
      let bytes = grown_whole own _ mid last none (c.in_ok-append.ensures.grows told) ∙ c.as_slice.ensures ∙ c.requires.intent.1 in
      let stand = may_stand_from c.args.from.now c.args.to.now from.text from.normal from.free to.text to.normal to.free (c.requires.differ told) in
      intends_written m own c.args.intent.now.path mid last c.know.ensures c.requires.intent.0 created
      (c.append.ensures.appends.only told).left c.args.from.now c.args.to.now bytes from.normal to.normal stand

  quiet_written : (c : After-append g) → IsTrue tells → Quiet time state (c.args.intent.now.temp ∷ []) c.args.machine.now c.append.new.machine
  quiet_written c told =
      let start = quiet_here g.met.M.Machine told c.args.machine.now (c.args.intent.now.temp ∷ []) in
      let here = only_here g.met.M.Machine told _ in
      let made = quiet-create _ _ _ _ _ start here (c.create.ensures.moments told) c.create.result _ (own_alone _) (c.create.ensures.row told) in
      quiet_appends _ _ c.args.intent.now.temp _ _ _ (own_alone _) made (c.append.ensures.appends.only told)

pub returns-in_err-create-clause-step : goal.returns-in_err-create-clause-step
returns-in_err-create-clause-step g c told firm =
    let start = starts_same g.met.M.Machine told c.args.machine.now firm (c.requires.ready told).one in
    steps_same _ _ _ _ _ (goes-create _ _ _ _ _ _ c.create.result start (c.create.ensures.moments told) _ c.know.ensures (c.create.ensures.row told))

pub append-requires : goal.append-requires
append-requires g c = record {
  there = λ told. rw (c.in_ok-create.ensures.row told) (has-created (g.M.Machine.state c.args.machine.now).files c.args.intent.now.temp);
}

pub returns-in_err-append-clause-step : goal.returns-in_err-append-clause-step
returns-in_err-append-clause-step g c told firm =
    steps_same _ _ _ _ _ (written g (goal.at.returns-in_err-append-clause-step g c).After-append told firm)

pub put_in_place-requires : goal.put_in_place-requires
put_in_place-requires g c = record {
  there = appends-there c.append.ensures.appends (λ told. rw (c.in_ok-create.ensures.row told) (has-created (g.M.Machine.state c.args.machine.now).files c.args.intent.now.temp));
}

pub returns-clause-step : goal.returns-clause-step
returns-clause-step g c told firm =
    let at = goal.at.returns-clause-step g c in
    let m = (g.M.Machine.state c.args.machine.now).files in
    let is = intended_view m _ c.args.from.now c.args.to.now (c.requires.ready told).rested (intends g at.In_ok-append told) (c.requires.none told) in
    steps_put _ _ _ _ _ _ _ (written g at.After-append told firm) is (c.put_in_place.ensures.step told)

pub returns-clause-intends : goal.returns-clause-intends
returns-clause-intends g c = ok_then c.put_in_place.result c.put_in_place.ensures.files (λ files told.
    let m = (g.M.Machine.state c.args.machine.now).files in
    subst (Intends c.args.from.now c.args.to.now m) (sym (files told)) (intends g (goal.at.returns-clause-intends g c).In_ok-append told))

pub returns-clause-temps : goal.returns-clause-temps
returns-clause-temps g c = ok_then c.put_in_place.result c.put_in_place.ensures.files (λ files told q temp there.
    let m = (g.M.Machine.state c.args.machine.now).files in
    let mid = g.M.Machine.state c.create.new.self in
    let created : mid.files ≡ map.insert m c.args.intent.now.temp [] = rw (c.in_ok-create.ensures.row told) refl in
    temps_put m c.args.intent.now.temp c.args.intent.now.path mid (g.M.Machine.state c.append.new.machine) c.know.ensures c.requires.intent.0 created
    (c.append.ensures.appends.only told).left q temp (rw (files told) at there))

pub returns-in_err-create-clause-alone : goal.returns-in_err-create-clause-alone
returns-in_err-create-clause-alone g c = alone_by (λ told.
    let start = quiet_here g.met.M.Machine told c.args.machine.now (c.args.intent.now.temp ∷ []) in
    let here = only_here g.met.M.Machine told _ in
    quiet-create _ _ _ _ _ start here (c.create.ensures.moments told) c.create.result _ (own_alone _) (c.create.ensures.row told)) (search rules)

pub returns-in_err-append-clause-alone : goal.returns-in_err-append-clause-alone
returns-in_err-append-clause-alone g c =
    alone_by (quiet_written g (goal.at.returns-in_err-append-clause-alone g c).After-append) (search rules)

pub returns-clause-alone : goal.returns-clause-alone
returns-clause-alone g c = alone_by (λ told.
    let written = quiet_written g (goal.at.returns-clause-alone g c).After-append told in
    quiet_then _ _ _ _ _ written (quiet_of c.put_in_place.ensures.alone told)) (search rules)
