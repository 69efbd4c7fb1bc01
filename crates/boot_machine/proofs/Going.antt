-- How a run of calls goes on that changes boot files.
use Rattle.std.proofs.Common.{◌≡◌, inl, inr, ⊎_elim, ℕ, true, false, List, refl, sym, ◌∙◌, subst, arith, Result}
use Rattle.std.specs.FinMap as maps
use Rattle.std.specs.FinSet as set
use Rattle.boot_base.specs.Paths.{Path, is_temp}
use Rattle.boot_machine.specs.Prelude.{Files, State, IsCandidate, recovered_view, IsImage, IsMoment, Timeline, Elapses, EachSince, contents, move_in, after_create, after_unlink, CreateRow, AppendRow, SyncFileRow, RenameRow, UnlinkRow, SyncNamesRow}
use Rattle.boot_machine.specs.declared.machine.Printed.{Printed}
use Rattle.boot_machine.proofs.Printing.{not_printed}
use Rattle.boot_machine.proofs.Recovering.{recovered_view_of_image}
use Rattle.boot_machine.proofs.Soft.{AreTemp, Stands, by_done_or_not, by_rename, by_append, by_sync_file, by_sync_names, stands-created, stands-half_renamed, stands-appended, stands-file_synced, stands-after_rename, stands-unlinked, stands-names_synced}

pub image_sees : (old : State) (P : Files → Type 0) (s : State) → Stands old P s → (m : Files) → IsImage s m → P (recovered_view m)
image_sees old P s stands m image =
    subst P (sym (recovered_view_of_image s.soft image.of m stands.temps image.image)) (stands.views image.of image.candidate)

pub moment_sees : (old : State) (P : Files → Type 0) (s t : State) → Stands old P s → Stands old P t → (m : Files) (o : List Printed) → IsMoment s t m o → P (recovered_view m) × (o ≡ old.printed)
moment_sees old P s t before after m o moment = (
  ⊎_elim (image_sees old P s before m) (image_sees old P t after m) moment.image,
  not_printed s.printed o t.printed (after.printed ∙ sym before.printed) moment.printed ∙ before.printed,
)

abbrev pub SeesSilently : State → (Files → Type 0) → Files → List Printed → Type 0
SeesSilently old P m o = P (recovered_view m) × (o ≡ old.printed)

module _ {D : Type 0} (time : Timeline D) (state : D → State) where
  -- what holds since old, while calls are made
  pub record During (P : Files → Type 0) (old now : D) : Type 0 where
    pub moments : EachSince time old now (SeesSilently (state old) P)
    pub stands : Stands (state old) P (state now)

  -- before the first call
  pub started : (P : Files → Type 0) (old : D) → ((m : Files) (o : List Printed) → time.since old (time.clock old) m o → IsImage (state old) m × (o ≡ (state old).printed))
      → AreTemp (state old).soft → ((c : Files) → IsCandidate (state old) c → P (recovered_view c)) → During P old old
  started P old only_now temps views =
      let stands : Stands (state old) P (state old) = record { temps = temps; views = views; printed = refl; input = refl } in
      record {
        moments = record {
          later = omega arith;
          each = λ m o left. let now = only_now m o left in (image_sees (state old) P (state old) stands m now.0, now.1);
          before = λ t m o le left. inl left;
        };
        stands = stands;
      }

  -- one call more
  pub goes_on : (P : Files → Type 0) (old mid new : D) → During P old mid → Elapses time state mid new → Stands (state old) P (state new) → During P old new
  goes_on P old mid new so_far elapsed stands =
      let here : (m : Files) (o : List Printed) → IsMoment (state mid) (state new) m o → SeesSilently (state old) P m o = moment_sees (state old) P (state mid) (state new) so_far.stands stands in
      record {
        moments = record {
          later = omega (arith, so_far.moments.later, elapsed.later);
          each = λ m o left. ⊎_elim (so_far.moments.each m o) (here m o) (elapsed.nothing_else (time.clock old) m o so_far.moments.later left);
          before = λ t m o le left. ⊎_elim (so_far.moments.before t m o le) (λ now. inr (here m o now)) (elapsed.nothing_else t m o (omega (arith, le, so_far.moments.later)) left);
        };
        stands = stands;
      }

-- One call more, whatever its answer.
module _ {D E : Type 0} (time : Timeline D) (state : D → State) (P : Files → Type 0) (old mid new : D) (r : Result Unit E)
    (so_far : During time state P old mid) (elapsed : Elapses time state mid new) where
  goes : Stands (state old) P (state new) → During time state P old new
  goes stands = goes_on time state P old mid new so_far elapsed stands

  pub goes-create : (p : Path) → is_temp p ≡ true → CreateRow (state mid) (state new) p r → During time state P old new
  goes-create p temp row = goes (by_done_or_not (λ s. Stands (state old) P s) (state mid) (after_create p (state mid)) (state new) r so_far.stands (stands-created (state old) P (state mid) so_far.stands p temp) row)

  pub goes-append : (p : Path) (bytes : List ℕ) → is_temp p ≡ true → AppendRow (state mid) (state new) p bytes r → During time state P old new
  goes-append p bytes temp row = goes (by_append (λ s. Stands (state old) P s) (state mid) (state new) p bytes r so_far.stands (λ b. stands-appended (state old) P (state mid) so_far.stands p b temp) row)

  pub goes-sync_file : (p : Path) → SyncFileRow (state mid) (state new) p r → During time state P old new
  goes-sync_file p row = goes (by_sync_file (λ s. Stands (state old) P s) (state mid) (state new) p r so_far.stands (stands-file_synced (state old) P (state mid) so_far.stands p) row)

  pub goes-rename : (from to : Path) → set.contains (state mid).soft from ≡ false → P (recovered_view (maps.insert (state mid).files to (contents (state mid).files from)))
      → P (recovered_view (move_in from to (state mid).files)) → RenameRow (state mid) (state new) from to r → During time state P old new
  goes-rename from to synced half sees row =
      goes (by_rename (λ s. Stands (state old) P s) (state mid) (state new) from to r so_far.stands (stands-half_renamed (state old) P (state mid) so_far.stands from to synced half)
      (stands-after_rename (state old) P (state mid) so_far.stands from to synced half sees) row)

  pub goes-unlink : (p : Path) → P (recovered_view (maps.remove (state mid).files p)) → UnlinkRow (state mid) (state new) p r → During time state P old new
  goes-unlink p sees row = goes (by_done_or_not (λ s. Stands (state old) P s) (state mid) (after_unlink p (state mid)) (state new) r so_far.stands (stands-unlinked (state old) P (state mid) so_far.stands p sees) row)

  pub goes-sync_names : SyncNamesRow (state mid) (state new) r → During time state P old new
  goes-sync_names row = goes (by_sync_names (λ s. Stands (state old) P s) (state mid) (state new) r so_far.stands (stands-names_synced (state old) P (state mid) so_far.stands) row)

-- a call that only reads
pub goes-read : {D : Type 0} (time : Timeline D) (state : D → State) (P : Files → Type 0) (old mid new : D)
    → During time state P old mid → Elapses time state mid new → state new ≡ state mid → During time state P old new
goes-read time state P old mid new so_far elapsed is = goes_on time state P old mid new so_far elapsed (subst (λ (s : State). Stands (state old) P s) (sym is) so_far.stands)
