use Rattle.std.proofs.Common.{◌≡◌, IsTrue, [], ◌∷◌, List, ℕ, refl, sym, ap, ◌∙◌, subst, rules}
use Rattle.std.specs.FinMap as map
use Rattle.boot_machine.specs.Prelude.{Files, IsFirm, recovered_view, view, contents, move_in}
use Rattle.boot_machine.proofs.Going.{During, goes-create}
use Rattle.boot_machine.proofs.Views.{view-insert_temp}
use Rattle.boot_machine.proofs.Written.{has-created}
use Rattle.image_writer.specs.Sourced.{IsSourced, IsPlannedImage, new_sbat, part_list, parts_bytes, stub_path}
use Rattle.image_writer.proofs.Assembled.{one_image}
use Rattle.install_steps.specs.Steps.{IsDone}
use Rattle.install_steps.proofs.Appending.{appends-there}
use Rattle.install_steps.proofs.AppendLemmas.{goes-appends, contents-created, sees_written, calm_left, temps_left}
use Rattle.install_steps.proofs.KeepLemmas.{own_alone}
use Rattle.install_steps.proofs.MachineLemmas.{only_here, quiet_here, starts_same}
use Rattle.install_steps.proofs.QuietLemmas.{Quiet, alone_by, quiet-create, quiet_appends, quiet_of, quiet_then}
use Rattle.install_steps.proofs.StepLemmas.{Same, firm_so_far, settled_so_far, steps_put, steps_same, ok_both, ok_then, off_intent}
use Rattle.image_writer.proofs.planned.write_planned.Given as given
use Rattle.image_writer.proofs.planned.write_planned.Goals.{After-create, After-write_image, In_ok-create, In_ok-write_image}
use Rattle.image_writer.proofs.planned.write_planned.Goals as goal

module _ (g : given.Over) where
  open g.M.Machine use {tells, time, state}

  -- boot sees the same, while the file is made, and the image is written
  made : (c : After-create g) → IsTrue tells → IsFirm (state c.args.machine.now)
      → During time state (Same (state c.args.machine.now)) c.args.machine.now c.create.new.self
  made c told firm =
      let start = starts_same g.met.M.Machine told c.args.machine.now firm (c.requires.ready told).one in
      goes-create _ _ _ _ _ _ c.create.result start (c.create.ensures.moments told) _ c.know-2.ensures (c.create.ensures.row told)

  written : (c : After-write_image g) → IsTrue tells → IsFirm (state c.args.machine.now)
      → During time state (Same (state c.args.machine.now)) c.args.machine.now c.write_image.new.machine
  written c told firm =
      let start = starts_same g.met.M.Machine told c.args.machine.now firm (c.requires.ready told).one in
      let made = goes-create _ _ _ _ _ _ c.create.result start (c.create.ensures.moments told) _ c.know-2.ensures (c.create.ensures.row told) in
      goes-appends _ _ _ _ _ _ made _ c.know-2.ensures (c.write_image.ensures.appends.only told)

  -- the empty file shows nothing
  seen : (c : In_ok-create g) → IsTrue tells → view (state c.create.new.self).files ≡ view (state c.args.machine.now).files
  seen c told =
      let created : (state c.create.new.self).files ≡ map.insert (state c.args.machine.now).files c.args.target.now.temp [] =
      rw (c.in_ok-create.ensures.row told) refl in
      ap view created ∙ view-insert_temp (state c.args.machine.now).files c.args.target.now.temp [] c.know-2.ensures

  -- boot sees the image once it is in its place
  placed : (c : In_ok-write_image g) → IsTrue tells → (image : List ℕ)
      → IsPlannedImage c.args.plan.now c.args.sources.now (view (state c.args.machine.now).files) image
      → recovered_view (move_in c.args.target.now.temp c.args.target.now.path (state c.write_image.new.machine).files)
      ≡ map.insert (recovered_view (state c.args.machine.now).files) c.args.target.now.path image
  placed c told image finished =
      let m = (state c.args.machine.now).files in
      let own = c.args.target.now.temp in
      let created : (state c.create.new.self).files ≡ map.insert m own [] = rw (c.in_ok-create.ensures.row told) refl in
      let shown : view (state c.create.new.self).files ≡ view m = ap view created ∙ view-insert_temp m own [] c.know-2.ensures in
      let bytes = contents (state c.write_image.new.machine).files own in
      let stub = contents (view m) (stub_path c.args.sources.now) in
      let parts = parts_bytes (contents (view m)) (part_list c.args.sources.now) in
      let is_image = subst (λ (v : Files). IsPlannedImage c.args.plan.now c.args.sources.now v bytes) shown (c.in_ok-write_image.ensures.image told) in
      let same : bytes ≡ image = one_image c.args.plan.now stub (new_sbat c.args.sources.now) parts bytes image (c.requires.sourced told).plan_is is_image finished in
      sees_written m own c.args.target.now.path (state c.create.new.self) (state c.write_image.new.machine) image (c.requires.ready told).rested
      (off_intent c.args.target.now.path c.args.target.now.free) c.know-2.ensures c.know.ensures created (c.write_image.ensures.appends.only told).left same

  quiet_made : (c : After-create g) → IsTrue tells → Quiet time state (c.args.target.now.temp ∷ []) c.args.machine.now c.create.new.self
  quiet_made c told =
      let start = quiet_here g.met.M.Machine told c.args.machine.now (c.args.target.now.temp ∷ []) in
      quiet-create _ _ _ _ _ start (only_here g.met.M.Machine told _) (c.create.ensures.moments told) c.create.result _ (own_alone _) (c.create.ensures.row told)

  quiet_written : (c : After-write_image g) → IsTrue tells → Quiet time state (c.args.target.now.temp ∷ []) c.args.machine.now c.write_image.new.machine
  quiet_written c told =
      let start = quiet_here g.met.M.Machine told c.args.machine.now (c.args.target.now.temp ∷ []) in
      let made = quiet-create _ _ _ _ _ start (only_here g.met.M.Machine told _) (c.create.ensures.moments told) c.create.result _ (own_alone _) (c.create.ensures.row told) in
      quiet_appends _ _ c.args.target.now.temp _ _ _ (own_alone _) made (c.write_image.ensures.appends.only told)

pub returns-in_err-create-clause-step : goal.returns-in_err-create-clause-step
returns-in_err-create-clause-step g c told firm image finished =
    steps_same _ _ _ _ _ (made g (goal.at.returns-in_err-create-clause-step g c).After-create told firm)

pub write_image-requires-clause-sourced : goal.write_image-requires-clause-sourced
write_image-requires-clause-sourced g c told =
    let at = (goal.at.write_image-requires-clause-sourced g c).In_ok-create in
    subst (λ (v : Files). IsSourced c.args.plan.now c.args.sources.now v) (sym (seen g at told)) (c.requires.sourced told)

pub write_image-requires-clause-there : goal.write_image-requires-clause-there
write_image-requires-clause-there g c told = rw (c.in_ok-create.ensures.row told) (has-created (g.M.Machine.state c.args.machine.now).files c.args.target.now.temp)

pub write_image-requires-clause-empty : goal.write_image-requires-clause-empty
write_image-requires-clause-empty g c told = rw (c.in_ok-create.ensures.row told) (contents-created (g.M.Machine.state c.args.machine.now).files c.args.target.now.temp)

pub returns-in_err-write_image-clause-step : goal.returns-in_err-write_image-clause-step
returns-in_err-write_image-clause-step g c told firm image finished =
    steps_same _ _ _ _ _ (written g (goal.at.returns-in_err-write_image-clause-step g c).After-write_image told firm)

pub put_in_place-requires : goal.put_in_place-requires
put_in_place-requires g c = record {
  there = appends-there c.write_image.ensures.appends (λ told. rw (c.in_ok-create.ensures.row told) (has-created (g.M.Machine.state c.args.machine.now).files c.args.target.now.temp));
}

pub returns-clause-step : goal.returns-clause-step
returns-clause-step g c told firm image finished =
    let at = goal.at.returns-clause-step g c in
    steps_put _ _ _ _ _ _ _ (written g at.After-write_image told firm) (placed g at.In_ok-write_image told image finished) (c.put_in_place.ensures.step told)

pub returns-clause-done : goal.returns-clause-done
returns-clause-done g c = ok_then c.put_in_place.result c.put_in_place.ensures.done (λ done told firm image finished.
    let at = goal.at.returns-clause-done g c in
    let written = written g at.After-write_image told firm in
    subst (IsDone (g.M.Machine.state c.put_in_place.new.machine)) (placed g at.In_ok-write_image told image finished)
    (done told (firm_so_far _ _ _ _ _ written) (settled_so_far _ _ _ _ written)))

pub returns-in_err-create-clause-alone : goal.returns-in_err-create-clause-alone
returns-in_err-create-clause-alone g c =
    alone_by (quiet_made g (goal.at.returns-in_err-create-clause-alone g c).After-create) (search rules)

pub returns-in_err-write_image-clause-alone : goal.returns-in_err-write_image-clause-alone
returns-in_err-write_image-clause-alone g c =
    alone_by (quiet_written g (goal.at.returns-in_err-write_image-clause-alone g c).After-write_image) (search rules)

pub returns-clause-alone : goal.returns-clause-alone
returns-clause-alone g c = alone_by (λ told.
    let written = quiet_written g (goal.at.returns-clause-alone g c).After-write_image told in
    quiet_then _ _ _ _ _ written (quiet_of c.put_in_place.ensures.alone told)) (search rules)

pub returns-clause-ready : goal.returns-clause-ready
returns-clause-ready g c = ok_both c.put_in_place.result c.put_in_place.ensures.files c.put_in_place.ensures.one (λ files one told.
    let m = (g.M.Machine.state c.args.machine.now).files in
    let mid = g.M.Machine.state c.create.new.self in
    let last = g.M.Machine.state c.write_image.new.machine in
    let created : mid.files ≡ map.insert m c.args.target.now.temp [] = rw (c.in_ok-create.ensures.row told) refl in
    record {
      next = record {
        one = one told;
        rested = rw (files told)
            (calm_left m c.args.target.now.temp c.args.target.now.path mid last (c.requires.ready told).rested
            (off_intent c.args.target.now.path c.args.target.now.free) c.know-2.ensures created (c.write_image.ensures.appends.only told).left);
      };
      temps = λ q temp there. temps_left m c.args.target.now.temp c.args.target.now.path mid last c.know-2.ensures c.know.ensures created
          (c.write_image.ensures.appends.only told).left q temp (rw (files told) at there);
    })
