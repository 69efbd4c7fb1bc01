-- What waits for the disk: changes that a power cut may still undo (POSIX, fsync).
use Rattle.std.specs.Prelude.{◌≡◌, ◌⊎◌, ℕ, Bool, true, false, ◌&&◌, ◌||◌, IfErr, IfOk, List, [], ◌∷◌, ◌++◌, Result, Ok, Err, filter, map}
use Rattle.std.specs.List.{list_any}
use Rattle.boot_base.specs.Paths.{is_slash, is_temp}
use Rattle.name_syncs.specs.Folders.{has_folder, path_in}
use Rattle.name_syncs.specs.Paths.{has_path}
use Rattle.name_syncs.specs.declared.disk.FolderFault.{FolderFault}
use Rattle.name_syncs.specs.declared.folders.FolderSet.{FolderSet}

-- a sync that was asked for, of the file or the folder at a path
pub data Sync : Type 0 where
  FileAt : List ℕ → Sync
  FolderAt : List ℕ → Sync

-- a disk by what of it waits
pub record Waiting : Type 0 where
  -- the file at a path has got that name in this run since it was synced last
  pub files : List ℕ → Bool
  -- names have come or gone in a folder in this run since it was synced last
  pub folders : List ℕ → Bool
  -- Somebody else may have left a file or a folder so: an earlier run that was killed, or another program.
  pub left : Sync → Bool
  -- A folder is of FAT: the start and the length of a file in it stand in the folder, and are written with the file
  -- (Microsoft FAT specification, "FAT Directory Structure"; the vfat driver of Linux).
  pub fat : List ℕ → Bool
  -- the file system of a folder syncs folders
  pub syncs : List ℕ → Bool
  -- the file or the folder at a path is known to be there, and open to this run
  pub opens : Sync → Bool
  -- the syncs that were asked for so far, in their order
  pub asked : List Sync
  -- there was memory to keep each of them
  pub logged : Bool

-- what nobody else had left isn't left now
pub record LeavesNoMore (old new : Waiting) : Type 0 where
  pub left : (sync : Sync) → old.left sync ≡ false → new.left sync ≡ false
  pub fat : new.fat ≡ old.fat

-- what didn't wait doesn't wait now
pub record KeepsSynced (old new : Waiting) : Type 0 where
  pub files : (path : List ℕ) → old.files path ≡ false → new.files path ≡ false
  pub folders : (folder : List ℕ) → old.folders folder ≡ false → new.folders folder ≡ false
  pub others : LeavesNoMore old new
  pub syncs : new.syncs ≡ old.syncs
  pub opens : new.opens ≡ old.opens

-- if each sync so far was kept, these were asked for behind those before
abbrev pub Logs : List Sync → Waiting → Waiting → Type 0
Logs syncs old new = new.logged ≡ true → (old.logged ≡ true) × (new.asked ≡ old.asked ++ syncs)

-- these syncs were asked for, and nothing else was done
pub record Asks (syncs : List Sync) (old new : Waiting) : Type 0 where
  pub kept : KeepsSynced old new
  pub asked : Logs syncs old new

-- these stand in a list, in their order
abbrev pub StandWithin : List Sync → List Sync → Type 0
StandWithin [] more = Unit {0}
StandWithin (sync ∷ rest) [] = ⊥
StandWithin (sync ∷ rest) (other ∷ more) = ((sync ≡ other) × StandWithin rest more) ⊎ StandWithin (sync ∷ rest) more

-- These syncs were asked for, in their order. On FAT others may have come before each: those of what somebody else has
-- left.
pub record AsksAmong (syncs : List Sync) (old new : Waiting) : Type 0 where
  pub all : List Sync
  pub asks : Asks all old new
  pub within : StandWithin syncs all

-- those of some folders that are open to this run, on a file system that syncs folders
abbrev pub those_that_sync : Waiting → List (List ℕ) → List (List ℕ)
those_that_sync disk folders = filter (λ folder. disk.opens (FolderAt folder) && disk.syncs folder) folders

-- The syncs of these folders were asked for, in their order, but for those that can't be synced.
abbrev pub AsksFolders : List (List ℕ) → Waiting → Waiting → Type 0
AsksFolders folders old new = AsksAmong (map FolderAt (those_that_sync old folders)) old new

-- of the files in a folder of FAT nobody has left one, but for temporary files, which may have any bytes
abbrev pub HasNoneLeft : Waiting → List ℕ → Type 0
HasNoneLeft disk folder =
    disk.fat folder ≡ true → (name : List ℕ) → list_any is_slash name ≡ false → is_temp name ≡ false
    → disk.left (FileAt (path_in folder name)) ≡ false

-- a folder of FAT lists, among these names, each file that somebody has left in it
abbrev pub ListsLeft : Waiting → List ℕ → List (List ℕ) → Type 0
ListsLeft disk folder names =
    disk.fat folder ≡ true → (name : List ℕ) → list_any is_slash name ≡ false
    → disk.left (FileAt (path_in folder name)) ≡ true → has_path names name ≡ true

-- what a folder shows is on the disk: its names, and before them the files in it
pub record IsOnDisk (disk : Waiting) (folder : List ℕ) : Type 0 where
  pub names : disk.folders folder ≡ false
  pub left : disk.left (FolderAt folder) ≡ false
  pub files : HasNoneLeft disk folder

-- nothing of a folder can be synced: none is there, or its file system syncs none
abbrev pub HasNoSync : Waiting → List ℕ → Type 0
HasNoSync disk folder = (disk.opens (FolderAt folder) ≡ false) ⊎ (disk.syncs folder ≡ false)

-- What a folder shows is on the disk. Only one in which the run has changed no name of its own may wait still, if nothing
-- of it can be synced: nobody can have changed a name there that a power cut would undo.
abbrev pub NeedsNoSync : FolderSet → Waiting → List ℕ → Type 0
NeedsNoSync own disk folder = IsOnDisk disk folder ⊎ ((has_folder own folder ≡ false) × HasNoSync disk folder)

-- there is a file or a folder that this run may not open
abbrev pub IsShutOut : Waiting → Type 0
IsShutOut disk = (sync : Sync) × (disk.opens sync ≡ false)

-- What the sync of a folder leaves. On FAT others may have come before it: those of what somebody else has left.
pub record SyncRow {F : Type 0} (old new : Waiting) (folder : List ℕ) (result : Result Bool (FolderFault F)) : Type 0 where
  pub others : AsksAmong [] old new
  pub asks : IfOk result (λ is_there. is_there ≡ true → AsksAmong (FolderAt folder ∷ []) old new)
  pub synced : IfOk result (λ is_there. is_there ≡ true → IsOnDisk new folder)
  pub gone : IfOk result (λ is_there. is_there ≡ false → new.opens (FolderAt folder) ≡ false)
  pub unable : IfErr result (λ failure. failure.syncs_none ≡ true → new.syncs folder ≡ false)
  pub refused : IfErr result (λ failure. failure.is_refused ≡ true → IsShutOut new)

-- the sync of a folder hasn't failed: there was none to be made, or this run may not make it
abbrev pub is_no_failure : {F : Type 0} → Result Bool (FolderFault F) → Bool
is_no_failure (Ok is_there) = true
is_no_failure (Err failure) = failure.syncs_none || failure.is_refused

-- What a folder shows that was only looked at is on the disk. It may wait still if nothing of the folder can be synced,
-- or if this run may not open what comes before it.
abbrev pub ShowsTruth : Waiting → List ℕ → Type 0
ShowsTruth disk folder = IsOnDisk disk folder ⊎ (HasNoSync disk folder ⊎ IsShutOut disk)

-- A folder is settled only if it was so before, or is among these and doesn't wait.
abbrev pub SettlesOnly : List (List ℕ) → Waiting → FolderSet → FolderSet → Type 0
SettlesOnly folders disk old new =
    (folder : List ℕ) → has_folder new folder ≡ true
    → (has_folder old folder ≡ true) ⊎ ((has_path folders folder ≡ true) × (disk.folders folder ≡ false))
