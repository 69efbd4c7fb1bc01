use Rattle.install_steps.proofs.KeepLemmas.{own_alone}
use Rattle.std.proofs.Common.{◌≡◌, subst, rules, [], ◌∷◌, IsTrue}
use Rattle.std.specs.FinMap as map
use Rattle.boot_machine.specs.Prelude.{recovered_view, move_in, IsFirm}
use Rattle.boot_machine.proofs.Going.{goes-create, goes-append, During}
use Rattle.boot_machine.proofs.Written.{has-created, has-appended, calm-written, recovered_view-written, temps-written}
use Rattle.install_steps.specs.Steps.{IsDone}
use Rattle.install_steps.proofs.StepLemmas.{firm_so_far, settled_so_far, steps_same, ok_both, ok_then, off_intent, Same, steps_put}
use Rattle.install_steps.proofs.QuietLemmas.{alone_by, quiet-append, quiet-create, quiet_of, quiet_then, Quiet}
use Rattle.install_steps.proofs.MachineLemmas.{only_here, quiet_here, starts_same}
use Rattle.install_steps.proofs.write.write_bytes.Given as given
use Rattle.install_steps.proofs.write.write_bytes.Goals.{After-append, In_ok-append}
use Rattle.install_steps.proofs.write.write_bytes.Goals as goal

module _ (g : given.Over) where
  open g.M.Machine use {tells, time, state}

  -- boot sees the same, while the file is made and written
  written : (c : After-append g) → IsTrue tells → IsFirm (state c.args.machine.now)
      → During time state (Same (state c.args.machine.now)) c.args.machine.now c.append.new.self
  written c told firm =
      let start = starts_same g.met.M.Machine told c.args.machine.now firm (c.requires.ready told).one in
      let made = goes-create _ _ _ _ _ _ c.create.result start (c.create.ensures.moments told) _ c.know-2.ensures (c.create.ensures.row told) in
      goes-append _ _ _ _ _ _ c.append.result made (c.append.ensures.moments told) _ c.args.bytes.now c.know-2.ensures (c.append.ensures.row told)

  -- and the bytes once it is in its place
  placed : (c : In_ok-append g) → IsTrue tells
      → recovered_view (move_in c.args.target.now.temp c.args.target.now.path (state c.append.new.self).files)
      ≡ map.insert (recovered_view (state c.args.machine.now).files) c.args.target.now.path c.args.bytes.now
  placed c told = rw (c.in_ok-append.ensures.row told, c.in_ok-create.ensures.row told)
      (recovered_view-written (state c.args.machine.now).files c.args.target.now.temp c.args.target.now.path c.args.bytes.now
      (c.requires.ready told).rested c.know-2.ensures c.know.ensures (off_intent c.args.target.now.path c.args.target.now.free))

  quiet_written : (c : After-append g) → IsTrue tells → Quiet time state (c.args.target.now.temp ∷ []) c.args.machine.now c.append.new.self
  quiet_written c told =
      let start = quiet_here g.met.M.Machine told c.args.machine.now (c.args.target.now.temp ∷ []) in
      let here = only_here g.met.M.Machine told in
      let made = quiet-create _ _ _ _ _ start (here _) (c.create.ensures.moments told) c.create.result _ (own_alone _) (c.create.ensures.row told) in
      quiet-append _ _ _ _ _ made (here _) (c.append.ensures.moments told) c.append.result _ c.args.bytes.now (own_alone _) (c.append.ensures.row told)

pub returns-in_err-create-clause-step : goal.returns-in_err-create-clause-step
returns-in_err-create-clause-step g c told firm =
    let start = starts_same g.met.M.Machine told c.args.machine.now firm (c.requires.ready told).one in
    steps_same _ _ _ _ _ (goes-create _ _ _ _ _ _ c.create.result start (c.create.ensures.moments told) _ c.know-2.ensures (c.create.ensures.row told))

pub append-requires : goal.append-requires
append-requires g c told = rw (c.in_ok-create.ensures.row told) (has-created (g.M.Machine.state c.args.machine.now).files c.args.target.now.temp)

pub returns-in_err-append-clause-step : goal.returns-in_err-append-clause-step
returns-in_err-append-clause-step g c told firm =
    steps_same _ _ _ _ _ (written g (goal.at.returns-in_err-append-clause-step g c).After-append told firm)

pub put_in_place-requires : goal.put_in_place-requires
put_in_place-requires g c = record {
  there = λ told. rw (c.in_ok-append.ensures.row told, c.in_ok-create.ensures.row told)
      (has-appended (g.M.Machine.state c.args.machine.now).files c.args.target.now.temp c.args.bytes.now);
}

pub returns-clause-step : goal.returns-clause-step
returns-clause-step g c told firm =
    let at = goal.at.returns-clause-step g c in
    steps_put _ _ _ _ _ _ _ (written g at.After-append told firm) (placed g at.In_ok-append told) (c.put_in_place.ensures.step told)

pub returns-clause-done : goal.returns-clause-done
returns-clause-done g c = ok_then c.put_in_place.result c.put_in_place.ensures.done (λ done told firm.
    let at = goal.at.returns-clause-done g c in
    let written = written g at.After-append told firm in
    subst (IsDone (g.M.Machine.state c.put_in_place.new.machine)) (placed g at.In_ok-append told)
    (done told (firm_so_far _ _ _ _ _ written) (settled_so_far _ _ _ _ written)))

pub returns-clause-ready : goal.returns-clause-ready
returns-clause-ready g c = ok_both c.put_in_place.result c.put_in_place.ensures.files c.put_in_place.ensures.one (λ files one told.
    let m = (g.M.Machine.state c.args.machine.now).files in
    let own = c.args.target.now.temp in
    let path = c.args.target.now.path in
    record {
      next = record {
        one = one told;
        rested = rw (files told, c.in_ok-append.ensures.row told, c.in_ok-create.ensures.row told)
            (calm-written m own path c.args.bytes.now (c.requires.ready told).rested c.know-2.ensures (off_intent path c.args.target.now.free));
      };
      temps = λ q temp there. temps-written m own path c.args.bytes.now c.know-2.ensures c.know.ensures q temp
          (rw (files told, c.in_ok-append.ensures.row told, c.in_ok-create.ensures.row told) at there);
    })

pub returns-in_err-create-clause-alone : goal.returns-in_err-create-clause-alone
returns-in_err-create-clause-alone g c = alone_by (λ told.
    let start = quiet_here g.met.M.Machine told c.args.machine.now (c.args.target.now.temp ∷ []) in
    let here = only_here g.met.M.Machine told _ in
    quiet-create _ _ _ _ _ start here (c.create.ensures.moments told) c.create.result _ (own_alone _) (c.create.ensures.row told)) (search rules)

pub returns-in_err-append-clause-alone : goal.returns-in_err-append-clause-alone
returns-in_err-append-clause-alone g c =
    alone_by (quiet_written g (goal.at.returns-in_err-append-clause-alone g c).After-append) (search rules)

pub returns-clause-alone : goal.returns-clause-alone
returns-clause-alone g c = alone_by (λ told.
    let written = quiet_written g (goal.at.returns-clause-alone g c).After-append told in
    quiet_then _ _ _ _ _ written (quiet_of c.put_in_place.ensures.alone told)) (search rules)
