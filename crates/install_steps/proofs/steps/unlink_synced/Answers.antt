use Rattle.std.proofs.Common.{inr, refl, rules, [], inl, IsTrue}
use Rattle.std.specs.FinMap as map
use Rattle.boot_machine.specs.Prelude.{recovered_view, after_unlink, IsFirm}
use Rattle.boot_machine.proofs.Views.{has-removed}
use Rattle.boot_machine.proofs.Soft.{by_done_or_not, by_sync_names}
use Rattle.boot_machine.proofs.Going.{goes-unlink, goes-sync_names, During}
use Rattle.install_steps.specs.Steps.{NoNewTemp}
use Rattle.install_steps.proofs.StepLemmas.{steps_to, on_ok, OldOrNext}
use Rattle.install_steps.proofs.QuietLemmas.{alone_by, quiet-sync_names, quiet-unlink, Quiet}
use Rattle.install_steps.proofs.MachineLemmas.{only_here, quiet_here, starts}
use Rattle.install_steps.proofs.steps.unlink_synced.Given as given
use Rattle.install_steps.proofs.steps.unlink_synced.Goals.{After-unlink}
use Rattle.install_steps.proofs.steps.unlink_synced.Goals as goal

module _ (g : given.Over) where
  open g.M.Machine use {tells, time, state}

  -- boot sees the file or doesn't, while it is taken away
  gone : (c : After-unlink g) → IsTrue tells → IsFirm (state c.args.machine.now)
      → During time state (OldOrNext (state c.args.machine.now) (recovered_view (map.remove (state c.args.machine.now).files c.args.path.now)))
      c.args.machine.now c.unlink.new.self
  gone c told firm =
      let start = starts g.met.M.Machine told c.args.machine.now _ firm (c.requires.one told) in
      goes-unlink _ _ _ _ _ _ c.unlink.result start (c.unlink.ensures.moments told) c.args.path.now (inr refl) (c.unlink.ensures.row told)

  quiet_gone : (c : After-unlink g) → IsTrue tells → Quiet time state [] c.args.machine.now c.unlink.new.self
  quiet_gone c told =
      let start = quiet_here g.met.M.Machine told c.args.machine.now [] in
      let here = only_here g.met.M.Machine told _ in
      quiet-unlink _ _ _ _ _ start here (c.unlink.ensures.moments told) c.unlink.result c.args.path.now (inl c.know.ensures) (c.unlink.ensures.row told)

pub returns-in_err-unlink-clause-step : goal.returns-in_err-unlink-clause-step
returns-in_err-unlink-clause-step g c told firm =
    steps_to _ _ _ _ _ (gone g (goal.at.returns-in_err-unlink-clause-step g c).After-unlink told firm)

pub returns-clause-step : goal.returns-clause-step
returns-clause-step g c told firm =
    let gone = gone g (goal.at.returns-clause-step g c).After-unlink told firm in
    steps_to _ _ _ _ _ (goes-sync_names _ _ _ _ _ _ c.sync_names.result gone (c.sync_names.ensures.moments told) (c.sync_names.ensures.row told))

pub returns-clause-files : goal.returns-clause-files
returns-clause-files g c = on_ok _ _ c.sync_names.result c.sync_names.ensures.row (λ told row. rw (row, c.in_ok-unlink.ensures.row told) refl)

pub returns-clause-one : goal.returns-clause-one
returns-clause-one g c = on_ok _ _ c.sync_names.result c.sync_names.ensures.row (λ told row. rw row refl)

pub returns-in_err-unlink-clause-temps : goal.returns-in_err-unlink-clause-temps
returns-in_err-unlink-clause-temps g c told =
    let s = g.M.Machine.state c.args.machine.now in
    by_done_or_not (NoNewTemp s) s (after_unlink c.args.path.now s) (g.M.Machine.state c.unlink.new.self) c.unlink.result
    (λ q temp there. there) (λ q temp there. has-removed s.files c.args.path.now q there) (c.unlink.ensures.row told)

pub returns-clause-temps : goal.returns-clause-temps
returns-clause-temps g c told =
    let s = g.M.Machine.state c.args.machine.now in
    let mid = g.M.Machine.state c.unlink.new.self in
    let gone : NoNewTemp s mid = rw (c.in_ok-unlink.ensures.row told) (λ q temp there. has-removed s.files c.args.path.now q there) in
    by_sync_names (NoNewTemp s) mid (g.M.Machine.state c.sync_names.new.self) c.sync_names.result gone gone (c.sync_names.ensures.row told)

pub returns-in_err-unlink-clause-alone : goal.returns-in_err-unlink-clause-alone
returns-in_err-unlink-clause-alone g c =
    alone_by (quiet_gone g (goal.at.returns-in_err-unlink-clause-alone g c).After-unlink) (search rules)

pub returns-clause-alone : goal.returns-clause-alone
returns-clause-alone g c = alone_by (λ told.
    let gone = quiet_gone g (goal.at.returns-clause-alone g c).After-unlink told in
    let here = only_here g.met.M.Machine told _ in
    quiet-sync_names _ _ _ _ _ gone here (c.sync_names.ensures.moments told) c.sync_names.result (c.sync_names.ensures.row told)) (search rules)
