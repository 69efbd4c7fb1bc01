-- The names of a move that a stop has left, behind their syncs.
use Rattle.std.proofs.Common.{◌≡◌, ℕ, Bool, true, List, Option, Some, Result, Ok, Err, IfOk, is_some, subst, sym, ◌∙◌}
use Rattle.boot_base.specs.declared.intent.IntentNames.{IntentNames}
use Rattle.name_syncs.specs.Folders.{parent_folder}
use Rattle.name_syncs.specs.Waiting.{FileAt, KeepsSynced, Waiting}
use Rattle.name_syncs.proofs.Syncing.{on_disk_still}
use Rattle.folder_calls.specs.Tree.{Tree, is_fat_file}
use Rattle.folder_changes.specs.Files.{found_as}
use Rattle.folder_machine.specs.Moving.{LeftAreSynced, NameIsSynced}

name_still : (old new : Waiting) (path : List ℕ) → KeepsSynced old new → NameIsSynced old path → NameIsSynced new path
name_still old new path kept synced = record {
  file = kept.files path synced.file;
  left = kept.others.left (FileAt path) synced.left;
  folder = on_disk_still old new kept (parent_folder path) synced.folder;
}

-- each of the two names was synced if it was there
pub if_left_synced : {E : Type 0} (result : Result (Unit {0}) E) (tells : Type 0) (tree : Tree) (between new : Waiting)
    (left : Option IntentNames) (names : IntentNames) (has_old has_new : Bool) → Some names ≡ left
    → (tells → is_some (found_as is_fat_file (tree.stands names.from)) ≡ has_old)
    → (tells → is_some (found_as is_fat_file (tree.stands names.to)) ≡ has_new)
    → (tells → has_old ≡ true → NameIsSynced between names.from) → (tells → KeepsSynced between new)
    → IfOk result (λ _. tells → has_new ≡ true → NameIsSynced new names.to)
    → IfOk result (λ _. tells → LeftAreSynced tree new left)
if_left_synced (Ok _) tells tree between new left names has_old has_new is old_there new_there old kept to = λ told.
    subst (LeftAreSynced tree new) is (
      (λ there. name_still between new names.from (kept told) (old told (sym (old_there told) ∙ there))),
      (λ there. to told (sym (new_there told) ∙ there)),
    )
if_left_synced (Err _) tells tree between new left names has_old has_new is old_there new_there old kept to = to
