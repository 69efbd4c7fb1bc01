-- What has to be on the disk before a folder is synced, and what the system tells of that.
use Rattle.std.specs.Prelude.{◌≡◌, ℕ, Bool, true, false, List, [], ◌∷◌, All, Option, codes}
use Rattle.std.specs.IoError.{error_kind}
use Rattle.std.specs.Option.{option_map_or}
use Rattle.std.specs.declared.io.Error.{Error}
use Rattle.std.specs.declared.io.ErrorKind.TheVariants.{PermissionDenied}
use Rattle.boot_base.specs.Layout.{entries_below, images_below}
use Rattle.name_syncs.specs.Folders.{folders_above, path_in}
use Rattle.name_syncs.specs.Paths.{has_path}
use Rattle.name_syncs.specs.Waiting.{FileAt, FolderAt, HasNoneLeft, IsShutOut, Waiting}
use Rattle.folder_calls.specs.Tree.{is_fat_file, is_fat_folder, is_folder}
use Rattle.folder_calls.specs.declared.found.Found.{Found}

-- The folders below a partition in which this program replaces files. A rename over a file frees its clusters in the table
-- of FAT, and each sync on that file system writes the table (the vfat driver of Linux).
abbrev pub replaced_below : List (List ℕ)
replaced_below = images_below ∷ codes "loader" ∷ entries_below ∷ []

-- nobody has left a file in such a folder, if the folder above is a partition
abbrev pub HasNoneReplaced : Waiting → List ℕ → Type 0
HasNoneReplaced disk above = All (λ below. HasNoneLeft disk (path_in above below)) replaced_below

-- nobody has left a file in a folder in which this program replaces files, whichever folder is the partition: this one,
-- or one above it
abbrev pub IsNearClear : Waiting → List ℕ → Type 0
IsNearClear disk folder =
    (above : List ℕ) → has_path (folder ∷ folders_above folder) above ≡ true → HasNoneReplaced disk above

-- A folder may be synced. On FAT what others have left in it is on the disk first, and in the folders in which this program
-- replaces files.
pub record MaySync (disk : Waiting) (folder : List ℕ) : Type 0 where
  pub own : HasNoneLeft disk folder
  pub near : disk.fat folder ≡ true → IsNearClear disk folder

-- What is found at a path tells of the folder there: none is open to this run if none was found, and it is none of FAT if
-- FAT can't keep its time.
pub record TellsOfFolder (disk : Waiting) (path : List ℕ) (found : Option Found) : Type 0 where
  pub none : option_map_or is_folder found false ≡ false → disk.opens (FolderAt path) ≡ false
  pub other : option_map_or is_fat_folder found false ≡ false → disk.fat path ≡ false

-- what is found at a path tells of the file there: nobody has left it if FAT can't keep its time
abbrev pub TellsOfFile : Waiting → List ℕ → Option Found → Type 0
TellsOfFile disk path found = option_map_or is_fat_file found false ≡ false → disk.left (FileAt path) ≡ false

-- a call is refused only if there is something that this run may not open
abbrev pub IsRefusal : Waiting → Error → Type 0
IsRefusal disk error = error_kind error ≡ PermissionDenied → IsShutOut disk

-- behind a failed sync a folder of FAT was tried: the system has looked for its clusters in the table
abbrev pub IsTried : Waiting → (List ℕ → Bool) → List ℕ → Type 0
IsTried disk doubts folder = disk.fat folder ≡ true → doubts folder ≡ false
