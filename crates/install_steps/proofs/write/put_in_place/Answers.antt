use Rattle.install_steps.proofs.KeepLemmas.{own_alone}
use Rattle.std.proofs.Common.{◌≡◌, inr, false, refl, [], ◌∙◌, rules, ◌∷◌, IsTrue}
use Rattle.std.specs.FinSet as set
use Rattle.boot_machine.specs.Prelude.{recovered_view, move_in, IsFirm, IsSettled}
use Rattle.boot_machine.proofs.Going.{goes-sync_file, goes-rename, goes-sync_names, During}
use Rattle.boot_machine.proofs.Recovering.{recovered_view-half_temp}
use Rattle.boot_machine.proofs.Written.{is_synced}
use Rattle.install_steps.proofs.StepLemmas.{steps_to, is_done, on_ok, OldOrNext}
use Rattle.install_steps.proofs.QuietLemmas.{alone_by, quiet-rename, quiet-sync_file, quiet-sync_names, Quiet}
use Rattle.install_steps.proofs.MachineLemmas.{only_here, quiet_here, starts_settled}
use Rattle.install_steps.proofs.write.put_in_place.Given as given
use Rattle.install_steps.proofs.write.put_in_place.Goals.{After-rename_temp}
use Rattle.install_steps.proofs.write.put_in_place.Goals as goal

module _ (g : given.Over) where
  open g.M.Machine use {tells, time, state}

  -- boot sees the file in its place once it is renamed
  placed : (c : After-rename_temp g) → IsTrue tells
      → recovered_view (move_in c.args.temp.now c.args.path.now (state c.sync_file.new.self).files)
      ≡ recovered_view (move_in c.args.temp.now c.args.path.now (state c.args.machine.now).files)
  placed c told = rw (c.in_ok-sync_file.ensures.row told) refl

  -- and sees that or what it saw, while it is synced and renamed
  moved : (c : After-rename_temp g) → IsTrue tells → IsFirm (state c.args.machine.now) → IsSettled (state c.args.machine.now)
      → During time state
      (OldOrNext (state c.args.machine.now) (recovered_view (move_in c.args.temp.now c.args.path.now (state c.args.machine.now).files)))
      c.args.machine.now c.rename_temp.new.self
  moved c told firm settled =
      let mid = (state c.sync_file.new.self).files in
      let start = starts_settled g.met.M.Machine told c.args.machine.now _ firm settled in
      let synced = goes-sync_file _ _ _ _ _ _ c.sync_file.result start (c.sync_file.ensures.moments told) _ (c.sync_file.ensures.row told) in
      let not_soft : set.contains (state c.sync_file.new.self).soft c.args.temp.now ≡ false =
      rw (c.in_ok-sync_file.ensures.row told) (is_synced (state c.args.machine.now).soft c.args.temp.now) in
      let half = recovered_view-half_temp mid c.args.temp.now c.args.path.now c.know-2.ensures ∙ placed c told in
      goes-rename _ _ _ _ _ _ c.rename_temp.result synced (c.rename_temp.ensures.moments told) c.args.temp.now c.args.path.now
      not_soft (inr half) (inr (placed c told)) (c.rename_temp.ensures.row told)

  quiet_moved : (c : After-rename_temp g) → IsTrue tells → Quiet time state (c.args.temp.now ∷ []) c.args.machine.now c.rename_temp.new.self
  quiet_moved c told =
      let start = quiet_here g.met.M.Machine told c.args.machine.now (c.args.temp.now ∷ []) in
      let here = only_here g.met.M.Machine told in
      let synced = quiet-sync_file _ _ _ _ _ start (here _) (c.sync_file.ensures.moments told) c.sync_file.result _ (c.sync_file.ensures.row told) in
      quiet-rename _ _ _ _ _ synced (here _) (c.rename_temp.ensures.moments told) c.rename_temp.result c.args.temp.now c.args.path.now
      (own_alone _) c.know.ensures (c.rename_temp.ensures.row told)

pub returns-in_err-sync_file-clause-step : goal.returns-in_err-sync_file-clause-step
returns-in_err-sync_file-clause-step g c told firm settled =
    let start = starts_settled g.met.M.Machine told c.args.machine.now _ firm settled in
    steps_to _ _ _ _ _ (goes-sync_file _ _ _ _ _ _ c.sync_file.result start (c.sync_file.ensures.moments told) _ (c.sync_file.ensures.row told))

pub returns-in_err-rename_temp-clause-step : goal.returns-in_err-rename_temp-clause-step
returns-in_err-rename_temp-clause-step g c told firm settled =
    steps_to _ _ _ _ _ (moved g (goal.at.returns-in_err-rename_temp-clause-step g c).After-rename_temp told firm settled)

pub returns-clause-step : goal.returns-clause-step
returns-clause-step g c told firm settled =
    let moved = moved g (goal.at.returns-clause-step g c).After-rename_temp told firm settled in
    steps_to _ _ _ _ _ (goes-sync_names _ _ _ _ _ _ c.sync_names.result moved (c.sync_names.ensures.moments told) (c.sync_names.ensures.row told))

pub returns-clause-done : goal.returns-clause-done
returns-clause-done g c = on_ok _ _ c.sync_names.result c.sync_names.ensures.row (λ told row firm settled.
    let renamed = (goal.at.returns-clause-done g c).After-rename_temp in
    let moved = moved g renamed told firm settled in
    let ended = goes-sync_names _ _ _ _ _ _ c.sync_names.result moved (c.sync_names.ensures.moments told) (c.sync_names.ensures.row told) in
    let next = recovered_view (move_in c.args.temp.now c.args.path.now (g.M.Machine.state c.args.machine.now).files) in
    let one : (g.M.Machine.state c.sync_names.new.self).earlier ≡ [] = rw row refl in
    let is : recovered_view (g.M.Machine.state c.sync_names.new.self).files ≡ next = rw (row, c.in_ok-rename_temp.ensures.row told) (placed g renamed told) in
    is_done (g.M.Machine.state c.sync_names.new.self) next ended.stands.temps one is)

pub returns-clause-one : goal.returns-clause-one
returns-clause-one g c = on_ok _ _ c.sync_names.result c.sync_names.ensures.row (λ told row. rw row refl)

pub returns-in_err-sync_file-clause-alone : goal.returns-in_err-sync_file-clause-alone
returns-in_err-sync_file-clause-alone g c = alone_by (λ told.
    let start = quiet_here g.met.M.Machine told c.args.machine.now (c.args.temp.now ∷ []) in
    let here = only_here g.met.M.Machine told _ in
    quiet-sync_file _ _ _ _ _ start here (c.sync_file.ensures.moments told) c.sync_file.result _ (c.sync_file.ensures.row told)) (search rules)

pub returns-in_err-rename_temp-clause-alone : goal.returns-in_err-rename_temp-clause-alone
returns-in_err-rename_temp-clause-alone g c =
    alone_by (quiet_moved g (goal.at.returns-in_err-rename_temp-clause-alone g c).After-rename_temp) (search rules)

pub returns-clause-alone : goal.returns-clause-alone
returns-clause-alone g c = alone_by (λ told.
    let moved = quiet_moved g (goal.at.returns-clause-alone g c).After-rename_temp told in
    let here = only_here g.met.M.Machine told _ in
    quiet-sync_names _ _ _ _ _ moved here (c.sync_names.ensures.moments told) c.sync_names.result (c.sync_names.ensures.row told)) (search rules)
