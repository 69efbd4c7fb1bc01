use Rattle.std.proofs.Common.{◌≡◌, IsTrue, true, false, length, [], ◌∷◌, refl, subst, rules, arith}
use Rattle.std.specs.FinMap as map
use Rattle.boot_machine.specs.Prelude.{has, recovered_view, IsFirm, TakesAtMost, contents, move_in}
use Rattle.boot_machine.proofs.Going.{During, goes-create, goes-read}
use Rattle.boot_machine.proofs.Recovering.{has-recovered_view}
use Rattle.boot_machine.proofs.Written.{has-created}
use Rattle.install_steps.specs.Steps.{IsDone, after_copy}
use Rattle.install_steps.proofs.Appending.{appends-there}
use Rattle.install_steps.proofs.AppendLemmas.{calm_left, copied_file, goes-appends, temps_left}
use Rattle.install_steps.proofs.CopyLemmas.{sees_copy, size_there, size_within}
use Rattle.install_steps.proofs.KeepLemmas.{own_alone}
use Rattle.install_steps.proofs.MachineLemmas.{only_here, quiet_here, starts_same}
use Rattle.install_steps.proofs.QuietLemmas.{Quiet, alone_by, quiet-create, quiet-read, quiet_appends, quiet_of, quiet_then}
use Rattle.install_steps.proofs.RefusedLemmas.{told_at}
use Rattle.install_steps.proofs.StepLemmas.{Same, firm_so_far, settled_so_far, steps_put, steps_same, off_intent}
use Rattle.install_steps.proofs.write.write_whole.Given as given
use Rattle.install_steps.proofs.write.write_whole.Goals.{After-copy_part, After-create, After-put_in_place, After-size, In_ok-copy_part}
use Rattle.install_steps.proofs.write.write_whole.Goals as goal

module _ (g : given.Over) where
  open g.M.Machine use {tells, time, state, taken}

  -- boot sees the same, while the size is read, the file is made, and it is written
  looked : (c : After-size g) → IsTrue tells → IsFirm (state c.args.machine.now)
      → During time state (Same (state c.args.machine.now)) c.args.machine.now c.size.new.self
  looked c told firm =
      let start = starts_same g.met.M.Machine told c.args.machine.now firm (c.requires.ready told).one in
      goes-read _ _ _ _ _ _ start (c.size.ensures.moments told) (c.size.ensures.row told).same

  made : (c : After-create g) → IsTrue tells → IsFirm (state c.args.machine.now)
      → During time state (Same (state c.args.machine.now)) c.args.machine.now c.create.new.self
  made c told firm =
      let start = starts_same g.met.M.Machine told c.args.machine.now firm (c.requires.ready told).one in
      let looked = goes-read _ _ _ _ _ _ start (c.size.ensures.moments told) (c.size.ensures.row told).same in
      goes-create _ _ _ _ _ _ c.create.result looked (c.create.ensures.moments told) _ c.know-3.ensures (c.create.ensures.row told)

  written : (c : After-copy_part g) → IsTrue tells → IsFirm (state c.args.machine.now)
      → During time state (Same (state c.args.machine.now)) c.args.machine.now c.copy_part.new.machine
  written c told firm =
      let start = starts_same g.met.M.Machine told c.args.machine.now firm (c.requires.ready told).one in
      let looked = goes-read _ _ _ _ _ _ start (c.size.ensures.moments told) (c.size.ensures.row told).same in
      let made = goes-create _ _ _ _ _ _ c.create.result looked (c.create.ensures.moments told) _ c.know-3.ensures (c.create.ensures.row told) in
      goes-appends _ _ _ _ _ _ made _ c.know-3.ensures (c.copy_part.ensures.appends.only told)

  -- the file is there, and has the size that was read
  sized : (c : After-create g) → IsTrue tells → (c.in-Some.size ≡ length (contents (state c.args.machine.now).files c.args.from.now))
      × (has (state c.args.machine.now).files c.args.from.now ≡ true)
  sized c told =
      let answer = told_at _ _ _ _ c.file.ensures.path (c.in_ok-size.ensures.row told).answer in
      size_there (state c.args.machine.now).files c.args.from.now c.in_ok-size.field-0 c.in-Some.size answer c.in-Some.is

  -- boot sees the copy once it is in its place
  copied : (c : In_ok-copy_part g) → IsTrue tells
      → recovered_view (move_in c.args.target.now.temp c.args.target.now.path (state c.copy_part.new.machine).files)
      ≡ after_copy c.args.from.now c.args.target.now.path (recovered_view (state c.args.machine.now).files)
  copied c told =
      let m = (state c.args.machine.now).files in
      let calm = (c.requires.ready told).rested in
      let created : (state c.create.new.self).files ≡ map.insert m c.args.target.now.temp [] =
      rw (c.in_ok-create.ensures.row told, (c.size.ensures.row told).same) refl in
      let answer = told_at _ _ _ _ c.file.ensures.path (c.in_ok-size.ensures.row told).answer in
      let long = size_within m c.args.from.now c.in_ok-size.field-0 c.in-Some.size c.min-size.result calm c.know.ensures.lasting
      (c.requires.small told) answer c.in-Some.is (λ small. omega (arith, small, c.min-size.ensures)) in
      let there = (size_there m c.args.from.now c.in_ok-size.field-0 c.in-Some.size answer c.in-Some.is).1 in
      let all = copied_file m c.args.target.now.temp c.args.from.now (state c.create.new.self) (state c.copy_part.new.machine)
      c.min-size.result c.know-3.ensures c.know.ensures.lasting created (c.copy_part.ensures.appends.only told).left
      (c.in_ok-copy_part.ensures.grows told) long in
      sees_copy m (state c.copy_part.new.machine).files c.args.target.now.temp c.args.from.now c.args.target.now.path calm
      (off_intent c.args.target.now.path c.args.target.now.free) c.know-3.ensures c.know.ensures.lasting c.know-2.ensures there all

  quiet_looked : (c : After-size g) → IsTrue tells → Quiet time state (c.args.target.now.temp ∷ []) c.args.machine.now c.size.new.self
  quiet_looked c told =
      let start = quiet_here g.met.M.Machine told c.args.machine.now (c.args.target.now.temp ∷ []) in
      quiet-read _ _ _ _ _ start (only_here g.met.M.Machine told _) (c.size.ensures.moments told) (c.size.ensures.row told).same

  quiet_made : (c : After-create g) → IsTrue tells → Quiet time state (c.args.target.now.temp ∷ []) c.args.machine.now c.create.new.self
  quiet_made c told =
      let start = quiet_here g.met.M.Machine told c.args.machine.now (c.args.target.now.temp ∷ []) in
      let here = only_here g.met.M.Machine told in
      let looked = quiet-read _ _ _ _ _ start (here _) (c.size.ensures.moments told) (c.size.ensures.row told).same in
      quiet-create _ _ _ _ _ looked (here _) (c.create.ensures.moments told) c.create.result _ (own_alone _) (c.create.ensures.row told)

  quiet_written : (c : After-copy_part g) → IsTrue tells → Quiet time state (c.args.target.now.temp ∷ []) c.args.machine.now c.copy_part.new.machine
  quiet_written c told =
      let start = quiet_here g.met.M.Machine told c.args.machine.now (c.args.target.now.temp ∷ []) in
      let here = only_here g.met.M.Machine told in
      let looked = quiet-read _ _ _ _ _ start (here _) (c.size.ensures.moments told) (c.size.ensures.row told).same in
      let made = quiet-create _ _ _ _ _ looked (here _) (c.create.ensures.moments told) c.create.result _ (own_alone _) (c.create.ensures.row told) in
      quiet_appends _ _ c.args.target.now.temp _ _ _ (own_alone _) made (c.copy_part.ensures.appends.only told)

  -- the bytes that were taken are those of the file
  taken_written : (c : After-copy_part g) → IsTrue tells
      → TakesAtMost (length (contents (state c.args.machine.now).files c.args.from.now)) (taken c.args.machine.now) (taken c.copy_part.new.machine)
  taken_written c told =
      let answer = told_at _ _ _ _ c.file.ensures.path (c.in_ok-size.ensures.row told).answer in
      let size = (size_there (state c.args.machine.now).files c.args.from.now c.in_ok-size.field-0 c.in-Some.size answer c.in-Some.is).0 in
      omega (arith, size, c.min-size.ensures, c.size.ensures.taken told, c.create.ensures.taken told, c.copy_part.ensures.taken told)

pub returns-in_err-size-clause-step : goal.returns-in_err-size-clause-step
returns-in_err-size-clause-step g c told firm =
    steps_same _ _ _ _ _ (looked g (goal.at.returns-in_err-size-clause-step g c).After-size told firm)

pub returns-in_default-clause-step : goal.returns-in_default-clause-step
returns-in_default-clause-step g c told firm =
    steps_same _ _ _ _ _ (looked g (goal.at.returns-in_default-clause-step g c).After-size told firm)

pub returns-in_default-clause-not_found : goal.returns-in_default-clause-not_found
returns-in_default-clause-not_found g c = λ err told.
    let s = g.M.Machine.state c.args.machine.now in
    let none : has s.files c.args.from.now ≡ false = search rules in
    (rw (has-recovered_view s.files c.args.from.now (c.requires.ready told).rested c.know.ensures.lasting) none, (c.size.ensures.row told).same)

pub returns-in_err-create-clause-step : goal.returns-in_err-create-clause-step
returns-in_err-create-clause-step g c told firm =
    steps_same _ _ _ _ _ (made g (goal.at.returns-in_err-create-clause-step g c).After-create told firm)

pub copy_part-requires : goal.copy_part-requires
copy_part-requires g c = record {
  there = λ told. rw (c.in_ok-create.ensures.row told) (has-created (g.M.Machine.state c.size.new.self).files c.args.target.now.temp);
}

pub returns-in_err-copy_part-clause-step : goal.returns-in_err-copy_part-clause-step
returns-in_err-copy_part-clause-step g c told firm =
    steps_same _ _ _ _ _ (written g (goal.at.returns-in_err-copy_part-clause-step g c).After-copy_part told firm)

pub put_in_place-requires : goal.put_in_place-requires
put_in_place-requires g c = record {
  there = appends-there c.copy_part.ensures.appends (λ told.
      rw (c.in_ok-create.ensures.row told) (has-created (g.M.Machine.state c.size.new.self).files c.args.target.now.temp));
}

pub returns-in_err-put_in_place-clause-step : goal.returns-in_err-put_in_place-clause-step
returns-in_err-put_in_place-clause-step g c told firm =
    let at = goal.at.returns-in_err-put_in_place-clause-step g c in
    steps_put _ _ _ _ _ _ _ (written g at.After-copy_part told firm) (copied g at.In_ok-copy_part told) (c.put_in_place.ensures.step told)

pub returns-clause-step : goal.returns-clause-step
returns-clause-step g c told firm =
    let at = goal.at.returns-clause-step g c in
    steps_put _ _ _ _ _ _ _ (written g at.After-copy_part told firm) (copied g at.In_ok-copy_part told) (c.put_in_place.ensures.step told)

pub returns-clause-done : goal.returns-clause-done
returns-clause-done g c told firm =
    let at = goal.at.returns-clause-done g c in
    let written = written g at.After-copy_part told firm in
    let done = c.in_ok-put_in_place.ensures.done told (firm_so_far _ _ _ _ _ written) (settled_so_far _ _ _ _ written) in
    subst (IsDone (g.M.Machine.state c.put_in_place.new.machine)) (copied g at.In_ok-copy_part told) done

pub returns-clause-found : goal.returns-clause-found
returns-clause-found g c told =
    let m = (g.M.Machine.state c.args.machine.now).files in
    let there = (sized g (goal.at.returns-clause-found g c).After-create told).1 in
    rw (has-recovered_view m c.args.from.now (c.requires.ready told).rested c.know.ensures.lasting) there

pub returns-clause-ready : goal.returns-clause-ready
returns-clause-ready g c told =
    let m = (g.M.Machine.state c.args.machine.now).files in
    let mid = g.M.Machine.state c.create.new.self in
    let last = g.M.Machine.state c.copy_part.new.machine in
    let own = c.args.target.now.temp in
    let path = c.args.target.now.path in
    let created : mid.files ≡ map.insert m own [] = rw (c.in_ok-create.ensures.row told, (c.size.ensures.row told).same) refl in
    let left = (c.copy_part.ensures.appends.only told).left in
    record {
      next = record {
        one = c.in_ok-put_in_place.ensures.one told;
        rested = rw (c.in_ok-put_in_place.ensures.files told)
            (calm_left m own path mid last (c.requires.ready told).rested (off_intent path c.args.target.now.free) c.know-3.ensures created left);
      };
      temps = λ q temp there. temps_left m own path mid last c.know-3.ensures c.know-2.ensures created left q temp
          (rw (c.in_ok-put_in_place.ensures.files told) at there);
    }

pub returns-in_err-size-clause-alone : goal.returns-in_err-size-clause-alone
returns-in_err-size-clause-alone g c =
    alone_by (quiet_looked g (goal.at.returns-in_err-size-clause-alone g c).After-size) (search rules)

pub returns-in_default-clause-alone : goal.returns-in_default-clause-alone
returns-in_default-clause-alone g c =
    alone_by (quiet_looked g (goal.at.returns-in_default-clause-alone g c).After-size) (search rules)

pub returns-in_err-create-clause-alone : goal.returns-in_err-create-clause-alone
returns-in_err-create-clause-alone g c =
    alone_by (quiet_made g (goal.at.returns-in_err-create-clause-alone g c).After-create) (search rules)

pub returns-in_err-copy_part-clause-alone : goal.returns-in_err-copy_part-clause-alone
returns-in_err-copy_part-clause-alone g c =
    alone_by (quiet_written g (goal.at.returns-in_err-copy_part-clause-alone g c).After-copy_part) (search rules)

pub returns-in_err-put_in_place-clause-alone : goal.returns-in_err-put_in_place-clause-alone
returns-in_err-put_in_place-clause-alone g c = alone_by (λ told.
    let written = quiet_written g (goal.at.returns-in_err-put_in_place-clause-alone g c).After-copy_part told in
    quiet_then _ _ _ _ _ written (quiet_of c.put_in_place.ensures.alone told)) (search rules)

pub returns-clause-alone : goal.returns-clause-alone
returns-clause-alone g c = alone_by (λ told.
    let written = quiet_written g (goal.at.returns-clause-alone g c).After-copy_part told in
    quiet_then _ _ _ _ _ written (quiet_of c.put_in_place.ensures.alone told)) (search rules)

pub returns-in_err-copy_part-clause-taken : goal.returns-in_err-copy_part-clause-taken
returns-in_err-copy_part-clause-taken g c = taken_written g (goal.at.returns-in_err-copy_part-clause-taken g c).After-copy_part

pub returns-in_err-put_in_place-clause-taken : goal.returns-in_err-put_in_place-clause-taken
returns-in_err-put_in_place-clause-taken g c told =
    let written = taken_written g (goal.at.returns-in_err-put_in_place-clause-taken g c).After-copy_part told in
    omega (arith, written, c.put_in_place.ensures.taken told)

pub returns-clause-taken : goal.returns-clause-taken
returns-clause-taken g c told =
    let written = taken_written g (goal.at.returns-clause-taken g c).After-copy_part told in
    omega (arith, written, c.put_in_place.ensures.taken told)
