-- The names of a move that a stop has left, and what a name has behind its sync.
use Rattle.std.specs.Prelude.{◌≡◌, ℕ, Bool, true, false, is_some, ◌||◌, List, bytes_eq, Option, Some, None, if◌then◌else◌}
use Rattle.boot_base.specs.declared.intent.IntentNames.{IntentNames}
use Rattle.name_syncs.specs.Folders.{parent_folder}
use Rattle.name_syncs.specs.Waiting.{FileAt, IsOnDisk, Waiting}
use Rattle.folder_calls.specs.Tree.{Tree, is_fat_file, is_file}
use Rattle.folder_changes.specs.Files.{found_as}
use Rattle.folder_calls.specs.declared.found.Found.{Found}
use Rattle.folder_machine.specs.declared.intent.HeldIntent.{HeldIntent}

-- the names in the intent that is held, if a stop has left it
abbrev pub left_names : {C F L : Type 0} → Option (HeldIntent C F L) → Option IntentNames
left_names None = None
left_names (Some held) = held.left

-- the path is the old name or the new one
abbrev pub names_path : List ℕ → IntentNames → Bool
names_path path names = bytes_eq names.from path || bytes_eq names.to path

-- the mode of a file in its place: that of the file which it replaces, or else that of a new one
abbrev pub mode_in_place : ℕ → Option Found → ℕ
mode_in_place new_mode None = new_mode
mode_in_place new_mode (Some found) = if is_file found then found.mode else new_mode

-- Neither the file at a path waits for the disk, whoever has given it that name, nor what its folder shows.
pub record NameIsSynced (disk : Waiting) (path : List ℕ) : Type 0 where
  pub file : disk.files path ≡ false
  pub left : disk.left (FileAt path) ≡ false
  pub folder : IsOnDisk disk (parent_folder path)

-- If a file that may stand on FAT has a name of the move, neither it nor what its folder shows waits for the disk.
abbrev pub LeftAreSynced : Tree → Waiting → Option IntentNames → Type 0
LeftAreSynced tree disk None = Unit {0}
LeftAreSynced tree disk (Some names) =
    (is_some (found_as is_fat_file (tree.stands names.from)) ≡ true → NameIsSynced disk names.from)
    × (is_some (found_as is_fat_file (tree.stands names.to)) ≡ true → NameIsSynced disk names.to)
