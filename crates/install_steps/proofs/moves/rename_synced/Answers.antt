use Rattle.std.proofs.Common.{inr, refl, rules, [], inl, IsTrue}
use Rattle.boot_machine.specs.Prelude.{recovered_view, move_in, IsFirm}
use Rattle.boot_machine.proofs.Recovering.{names_of, not_soft, recovered_view-half_moved}
use Rattle.boot_machine.proofs.Going.{goes-rename, goes-sync_names, During}
use Rattle.install_steps.proofs.StepLemmas.{steps_to, on_ok, differ_of, OldOrNext}
use Rattle.install_steps.proofs.QuietLemmas.{alone_by, quiet-rename, quiet-sync_names, Quiet}
use Rattle.install_steps.proofs.MachineLemmas.{only_here, quiet_here, starts}
use Rattle.install_steps.proofs.moves.rename_synced.Given as given
use Rattle.install_steps.proofs.moves.rename_synced.Goals.{After-rename_name}
use Rattle.install_steps.proofs.moves.rename_synced.Goals as goal

module _ (g : given.Over) where
  open g.M.Machine use {tells, time, state}

  -- boot sees the file at its old name or at its new one, while it is renamed
  renamed : (c : After-rename_name g) → IsTrue tells → IsFirm (state c.args.machine.now)
      → During time state
      (OldOrNext (state c.args.machine.now) (recovered_view (move_in c.args.from.now c.args.to.now (state c.args.machine.now).files)))
      c.args.machine.now c.rename_name.new.self
  renamed c told firm =
      let s = state c.args.machine.now in
      let start = starts g.met.M.Machine told c.args.machine.now _ firm (c.requires.one told) in
      let synced = not_soft s.soft start.stands.temps c.args.from.now c.know.ensures.lasting in
      let half = recovered_view-half_moved s.files c.args.from.now c.args.to.now (c.requires.named told) in
      goes-rename _ _ _ _ _ _ c.rename_name.result start (c.rename_name.ensures.moments told) c.args.from.now c.args.to.now
      synced (inr half) (inr refl) (c.rename_name.ensures.row told)

  quiet_renamed : (c : After-rename_name g) → IsTrue tells → Quiet time state [] c.args.machine.now c.rename_name.new.self
  quiet_renamed c told =
      let start = quiet_here g.met.M.Machine told c.args.machine.now [] in
      let here = only_here g.met.M.Machine told _ in
      quiet-rename _ _ _ _ _ start here (c.rename_name.ensures.moments told) c.rename_name.result c.args.from.now c.args.to.now
      (inl c.know.ensures.lasting) c.know-2.ensures.lasting (c.rename_name.ensures.row told)

pub rename_name-requires-clause-differ : goal.rename_name-requires-clause-differ
rename_name-requires-clause-differ g c told =
    let m = (g.M.Machine.state c.args.machine.now).files in
    differ_of c.args.from.now c.args.to.now (names_of m c.args.from.now c.args.to.now (c.requires.named told)).apart

pub returns-in_err-rename_name-clause-step : goal.returns-in_err-rename_name-clause-step
returns-in_err-rename_name-clause-step g c told firm =
    steps_to _ _ _ _ _ (renamed g (goal.at.returns-in_err-rename_name-clause-step g c).After-rename_name told firm)

pub returns-clause-step : goal.returns-clause-step
returns-clause-step g c told firm =
    let renamed = renamed g (goal.at.returns-clause-step g c).After-rename_name told firm in
    steps_to _ _ _ _ _ (goes-sync_names _ _ _ _ _ _ c.sync_names.result renamed (c.sync_names.ensures.moments told) (c.sync_names.ensures.row told))

pub returns-clause-files : goal.returns-clause-files
returns-clause-files g c = on_ok _ _ c.sync_names.result c.sync_names.ensures.row (λ told row. rw (row, c.in_ok-rename_name.ensures.row told) refl)

pub returns-clause-one : goal.returns-clause-one
returns-clause-one g c = on_ok _ _ c.sync_names.result c.sync_names.ensures.row (λ told row. rw row refl)

pub returns-in_err-rename_name-clause-alone : goal.returns-in_err-rename_name-clause-alone
returns-in_err-rename_name-clause-alone g c =
    alone_by (quiet_renamed g (goal.at.returns-in_err-rename_name-clause-alone g c).After-rename_name) (search rules)

pub returns-clause-alone : goal.returns-clause-alone
returns-clause-alone g c = alone_by (λ told.
    let renamed = quiet_renamed g (goal.at.returns-clause-alone g c).After-rename_name told in
    let here = only_here g.met.M.Machine told _ in
    quiet-sync_names _ _ _ _ _ renamed here (c.sync_names.ensures.moments told) c.sync_names.result (c.sync_names.ensures.row told)) (search rules)
