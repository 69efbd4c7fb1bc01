use Rattle.std.proofs.Common.{◌≡◌, inr, ⊎_elim, true, refl, sym, subst, ◌∙◌, [], rules, IsTrue}
use Rattle.boot_machine.specs.Prelude.{has, recovered_view, IsFirm}
use Rattle.boot_machine.proofs.Recovering.{recovered_view-remove_temp}
use Rattle.boot_machine.proofs.Soft.{now_sees}
use Rattle.boot_machine.proofs.Going.{goes-unlink, goes-sync_names, During}
use Rattle.install_steps.proofs.StepLemmas.{OldOrNext, steps_to, is_done}
use Rattle.install_steps.proofs.LeftoverLemmas.{calm_lacks, lacks_all, lacks_none, lacks_more, listed_at, none_new, still_there}
use Rattle.install_steps.proofs.QuietLemmas.{alone_by, quiet-sync_names, quiet-unlink, Quiet}
use Rattle.install_steps.proofs.MachineLemmas.{only_here, quiet_here, starts}
use Rattle.install_steps.proofs.steps.drop_leftovers.Given as given
use Rattle.install_steps.proofs.steps.drop_leftovers.Goals.{After-sync_names, After-unlink_temp}
use Rattle.install_steps.proofs.steps.drop_leftovers.Goals as goal

module _ (g : given.Over) where
  open g.M.Machine use {tells, time, state}

  -- boot sees the same, while one more file is taken away
  gone : (c : After-unlink_temp g) → IsTrue tells → IsFirm (state c.args.machine.now)
      → During time state (OldOrNext (state c.args.machine.now) (recovered_view (state c.args.machine.now).files))
      c.args.machine.now c.unlink_temp.new.self
  gone c told firm =
      let s = state c.args.machine.now in
      let now = state c.loop-path.machine in
      let so_far = c.loop-path.invariant.going told firm in
      let is = recovered_view-remove_temp now.files c.path-item.result c.know.ensures in
      let sees = subst (OldOrNext s (recovered_view s.files)) (sym is) (now_sees s _ now so_far.stands) in
      goes-unlink _ _ _ _ _ _ c.unlink_temp.result so_far (c.unlink_temp.ensures.moments told) c.path-item.result sees (c.unlink_temp.ensures.row told)

  quiet_gone : (c : After-unlink_temp g) → IsTrue tells → Quiet time state c.args.paths.now c.args.machine.now c.unlink_temp.new.self
  quiet_gone c told =
      let own = listed_at c.args.paths.now c.loop-path.path-index c.path-item.result c.loop-path-test.true c.path-item.is in
      let here = only_here g.met.M.Machine told _ in
      quiet-unlink _ _ _ _ _ (c.loop-path.invariant.quiet told) here (c.unlink_temp.ensures.moments told) c.unlink_temp.result
      c.path-item.result (inr own) (c.unlink_temp.ensures.row told)

  -- and the names are synced
  ended : (c : After-sync_names g) → IsTrue tells → IsFirm (state c.args.machine.now)
      → During time state (OldOrNext (state c.args.machine.now) (recovered_view (state c.args.machine.now).files))
      c.args.machine.now c.sync_names.new.self
  ended c told firm =
      let so_far = c.loop-path.invariant.going told firm in
      goes-sync_names _ _ _ _ _ _ c.sync_names.result so_far (c.sync_names.ensures.moments told) (c.sync_names.ensures.row told)

  quiet_ended : (c : After-sync_names g) → IsTrue tells → Quiet time state c.args.paths.now c.args.machine.now c.sync_names.new.self
  quiet_ended c told =
      let here = only_here g.met.M.Machine told _ in
      quiet-sync_names _ _ _ _ _ (c.loop-path.invariant.quiet told) here (c.sync_names.ensures.moments told) c.sync_names.result
      (c.sync_names.ensures.row told)

pub loop-path-init : goal.loop-path-init
loop-path-init g c = record {
  quiet = λ told. quiet_here g.met.M.Machine told c.args.machine.now c.args.paths.now;
  going = λ told firm. starts g.met.M.Machine told c.args.machine.now _ firm (c.requires.ready told).one;
  lacks = λ told. lacks_none (g.M.Machine.state c.args.machine.now).files;
  taken = λ told. refl;
  counts = refl;
}

pub unlink_temp-requires : goal.unlink_temp-requires
unlink_temp-requires g c told =
    let m = (g.M.Machine.state c.args.machine.now).files in
    let now = (g.M.Machine.state c.loop-path.machine).files in
    let was = c.requires.there told c.loop-path.path-index c.path-item.result c.loop-path-test.true in
    let there = subst (λ p. has m p ≡ true) (sym c.path-item.is) was in
    still_there c.args.paths.now c.loop-path.path-index c.path-item.result m now c.requires.distinct c.loop-path-test.true c.path-item.is
    there (c.loop-path.invariant.lacks told)

pub returns-in_err-unlink_temp-clause-step : goal.returns-in_err-unlink_temp-clause-step
returns-in_err-unlink_temp-clause-step g c told firm =
    steps_to _ _ _ _ _ (gone g (goal.at.returns-in_err-unlink_temp-clause-step g c).After-unlink_temp told firm)

pub loop-path-preserved : goal.loop-path-preserved
loop-path-preserved g c = record {
  quiet = quiet_gone g (goal.at.loop-path-preserved g c).After-unlink_temp;
  going = gone g (goal.at.loop-path-preserved g c).After-unlink_temp;
  lacks = λ told.
      let m = (g.M.Machine.state c.args.machine.now).files in
      let now = (g.M.Machine.state c.loop-path.machine).files in
      rw (c.in_ok-unlink_temp.ensures.row told) (lacks_more c.args.paths.now c.loop-path.path-index c.path-item.result m now
      c.loop-path-test.true c.path-item.is (c.loop-path.invariant.lacks told));
  taken = λ told. c.unlink_temp.ensures.taken told ∙ c.loop-path.invariant.taken told;
  counts = c.in_ok-unlink_temp.ensures.counts ∙ c.loop-path.invariant.counts;
}

pub returns-in_err-sync_names-clause-step : goal.returns-in_err-sync_names-clause-step
returns-in_err-sync_names-clause-step g c told firm =
    steps_to _ _ _ _ _ (ended g (goal.at.returns-in_err-sync_names-clause-step g c).After-sync_names told firm)

pub returns-clause-step : goal.returns-clause-step
returns-clause-step g c told firm =
    steps_to _ _ _ _ _ (ended g (goal.at.returns-clause-step g c).After-sync_names told firm)

pub returns-clause-done : goal.returns-clause-done
returns-clause-done g c told firm =
    let s = g.M.Machine.state c.args.machine.now in
    let now = g.M.Machine.state c.sync_names.new.self in
    let ended = ended g (goal.at.returns-clause-done g c).After-sync_names told firm in
    let one : now.earlier ≡ [] = rw (c.in_ok-sync_names.ensures.row told) refl in
    let is : recovered_view now.files ≡ recovered_view s.files = ⊎_elim (λ e. e) (λ e. e) (now_sees s _ now ended.stands) in
    is_done now (recovered_view s.files) ended.stands.temps one is

pub returns-clause-ready : goal.returns-clause-ready
returns-clause-ready g c told =
    let m = (g.M.Machine.state c.args.machine.now).files in
    let now = (g.M.Machine.state c.loop-path.machine).files in
    let lacks = c.loop-path.invariant.lacks told in
    let row = c.in_ok-sync_names.ensures.row told in
    record {
      next = record { one = rw row refl; rested = rw row (calm_lacks _ m now lacks (c.requires.ready told).rested) };
      temps = λ q temp there. none_new _ m now lacks q (rw row at there);
    }

pub returns-in_err-unlink_temp-clause-alone : goal.returns-in_err-unlink_temp-clause-alone
returns-in_err-unlink_temp-clause-alone g c =
    alone_by (quiet_gone g (goal.at.returns-in_err-unlink_temp-clause-alone g c).After-unlink_temp) (search rules)

pub returns-in_err-sync_names-clause-alone : goal.returns-in_err-sync_names-clause-alone
returns-in_err-sync_names-clause-alone g c =
    alone_by (quiet_ended g (goal.at.returns-in_err-sync_names-clause-alone g c).After-sync_names) (search rules)

pub returns-clause-alone : goal.returns-clause-alone
returns-clause-alone g c =
    let counts = c.in_ok-sync_names.ensures.counts ∙ c.loop-path.invariant.counts in
    alone_by (quiet_ended g (goal.at.returns-clause-alone g c).After-sync_names) counts

pub returns-clause-gone : goal.returns-clause-gone
returns-clause-gone g c told =
    let m = (g.M.Machine.state c.args.machine.now).files in
    let now = (g.M.Machine.state c.loop-path.machine).files in
    let lacks = c.loop-path.invariant.lacks told in
    rw (c.in_ok-sync_names.ensures.row told) (lacks_all c.args.paths.now c.loop-path.path-index m now c.loop-path-test.false lacks)
