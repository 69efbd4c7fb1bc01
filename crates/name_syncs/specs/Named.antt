-- What a run has named since its names were last synced.
use Rattle.std.specs.Prelude.{◌≡◌, ◌⊎◌, ℕ, true, false, List, ◌∷◌, ◌++◌, map, All, if◌then◌else◌}
use Rattle.name_syncs.specs.Paths.{has_path, paths_without, with_path}
use Rattle.name_syncs.specs.Folders.{parent_folder, folders_above, has_folder, listed, unsettled, with_folder, with_folders}
use Rattle.name_syncs.specs.Waiting.{AsksAmong, FileAt, FolderAt, LeavesNoMore, NeedsNoSync, Waiting, those_that_sync}
use Rattle.name_syncs.specs.declared.named.Named.{Named}

-- a file was looked at: the folders above it were seen
abbrev pub looked_at : Named → List ℕ → Named
looked_at named path =
    if has_folder named.seen (parent_folder path) then named
    else record named { seen = with_folders named.seen (folders_above path) }

-- A file was looked at again, and is as it was. A folder that is settled needs no second sync for it.
abbrev pub looked_again : Named → List ℕ → Named
looked_again named path = if has_folder named.settled (parent_folder path) then named else looked_at named path

-- the names in a folder were looked at: it was seen, and those above it
abbrev pub looked_into : Named → List ℕ → Named
looked_into named folder = record named { seen = with_folders named.seen (folder ∷ folders_above folder) }

-- The names in a folder were looked at again, and are as they were. If the folder is settled it needs no second sync.
abbrev pub looked_into_again : Named → List ℕ → Named
looked_into_again named folder = if has_folder named.settled folder then named else looked_into named folder

-- a name in the folder of a path is changed by this run
abbrev pub owned : Named → List ℕ → Named
owned named path = record named { own = with_folder named.own (parent_folder path) }

-- a folder is made: its name comes
abbrev pub made_at : Named → List ℕ → Named
made_at named folder = record (owned named folder) { changed = with_folder named.changed (parent_folder folder) }

-- A file comes or goes. Its own folder has changed, and those above it that aren't settled are synced too.
abbrev pub changed_at : Named → List ℕ → Named
changed_at named path =
    record (owned named path) { changed = with_folders named.changed (unsettled named.settled (folders_above path)) }

-- a file gets a new name, and these folders have changed
abbrev pub renamed_with : Named → List ℕ → List ℕ → List (List ℕ) → Named
renamed_with named from to folders = record (owned (owned named to) from) {
  renamed = with_path named.renamed to;
  changed = with_folders named.changed folders;
}

-- A file gets a new name: its new folder comes before its old one, each with those above it that aren't settled.
abbrev pub renamed_to : Named → List ℕ → List ℕ → Named
renamed_to named from to =
    renamed_with named from to
    (unsettled named.settled (folders_above to) ++ unsettled named.settled (folders_above from))

-- a file that got a new name was synced by it
abbrev pub settled_at : Named → List ℕ → Named
settled_at named path = record named { renamed = paths_without named.renamed path }

-- the syncs of what was changed were asked for, in this order: each renamed file, and then the folders that can be synced
abbrev pub AsksChanged : Named → Waiting → Waiting → Type 0
AsksChanged named old new =
    AsksAmong (map FileAt named.renamed ++ map FolderAt (those_that_sync old (listed named.changed))) old new

-- nothing that was changed waits for the disk
pub record IsSynced (named : Named) (disk : Waiting) : Type 0 where
  pub files : All (λ path. disk.files path ≡ false) named.renamed
  pub folders : All (NeedsNoSync named.own disk) (listed named.changed)

-- each file and folder that waits for the disk was noted, the folder as one in which the run has changed a name
pub record Covers (named : Named) (disk : Waiting) : Type 0 where
  pub files : (path : List ℕ) → disk.files path ≡ true → has_path named.renamed path ≡ true
  pub folders : (folder : List ℕ) → disk.folders folder ≡ true → has_path (listed named.changed) folder ≡ true
  pub own : (folder : List ℕ) → disk.folders folder ≡ true → has_folder named.own folder ≡ true

-- nothing that this run has changed waits for the disk
pub record NothingWaits (disk : Waiting) : Type 0 where
  pub files : (path : List ℕ) → disk.files path ≡ false
  pub folders : (folder : List ℕ) → disk.folders folder ≡ false

-- a name that comes or goes makes its folder wait
pub record NameWaits (old new : Waiting) (path : List ℕ) : Type 0 where
  pub files : (other : List ℕ) → new.files other ≡ true → old.files other ≡ true
  pub folders : (folder : List ℕ) → new.folders folder ≡ true → (old.folders folder ≡ true) ⊎ (folder ≡ parent_folder path)
  pub others : LeavesNoMore old new

-- a rename makes the file wait at its new name, and both folders
pub record RenameWaits (old new : Waiting) (from to : List ℕ) : Type 0 where
  pub files : (path : List ℕ) → new.files path ≡ true → (old.files path ≡ true) ⊎ (path ≡ to)
  pub folders : (folder : List ℕ) → new.folders folder ≡ true
      → (old.folders folder ≡ true) ⊎ ((folder ≡ parent_folder to) ⊎ (folder ≡ parent_folder from))
  pub others : LeavesNoMore old new

-- If all that waited was noted, so is all that waits after a name that comes, that of a folder or one that goes.
abbrev pub NamesAreCovered : Type 0
NamesAreCovered =
    (named : Named) (old new : Waiting) (path : List ℕ) → Covers named old → NameWaits old new path
    → Covers (made_at named path) new × Covers (changed_at named path) new

-- If all that waited was noted, so is all that waits after a rename.
abbrev pub RenamesAreCovered : Type 0
RenamesAreCovered =
    (named : Named) (old new : Waiting) (from to : List ℕ) → Covers named old → RenameWaits old new from to
    → Covers (renamed_to named from to) new

-- If all that waits was noted, it still is without the note of a renamed file that doesn't wait any more.
abbrev pub SettledAreCovered : Type 0
SettledAreCovered =
    (named : Named) (disk : Waiting) (path : List ℕ) → Covers named disk → disk.files path ≡ false
    → Covers (settled_at named path) disk
