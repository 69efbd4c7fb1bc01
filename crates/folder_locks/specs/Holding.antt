-- What a run holds by its locks.
use Rattle.std.specs.Prelude.{◌≡◌, ℕ, Bool, false, List, ◌++◌, All, Option, IsTrue, bytes_eq, find, string_bytes, if◌then◌else◌}
use Rattle.boot_base.specs.Layout.{payloads_below}
use Rattle.boot_base.specs.Paths.{file_name_of}
use Rattle.name_syncs.specs.Folders.{parent_folder, with_folder}
use Rattle.name_syncs.specs.declared.folders.FolderSet.{FolderSet}
use Rattle.folder_calls.specs.Calls.{Inode, inode_of}
use Rattle.folder_calls.specs.Tree.{same_inode}
use Rattle.folder_calls.specs.declared.found.Found.{Found}
use Rattle.folder_locks.specs.declared.locks.Held.{Held}
use Rattle.folder_locks.specs.declared.locks.Locks.{Locks}

-- what was opened is what was found
abbrev pub IsOpenAs : {F : Type 0} → (F → Inode) → F × Found → Type 0
IsOpenAs inode opened = inode opened.0 ≡ inode_of opened.1

-- payloads stand in a folder whose last component is `boot_tools`
abbrev pub has_payloads : List ℕ → Bool
has_payloads folder = bytes_eq (file_name_of folder) payloads_below

-- these folders, and that of a path if payloads stand in it
abbrev pub with_payloads_of : FolderSet → List ℕ → FolderSet
with_payloads_of folders path =
    if has_payloads (parent_folder path) then with_folder folders (parent_folder path) else folders

-- this is held by that path
abbrev pub is_held_by : {C F L : Type 0} → List ℕ → Held C F L → Bool
is_held_by path held = bytes_eq (string_bytes held.path) path

-- what is held by a path
abbrev pub held_by : {C F L : Type 0} → List (Held C F L) → List ℕ → Option (Held C F L)
held_by all path = find (is_held_by path) all

-- this is the file or folder that was found, maybe by another path
abbrev pub is_held_as : {C F L : Type 0} → Found → Held C F L → Bool
is_held_as found held = same_inode held.found found

-- what is held of the one that was found
abbrev pub held_as : {C F L : Type 0} → List (Held C F L) → Found → Option (Held C F L)
held_as all found = find (is_held_as found) all

-- what is held is what was found
abbrev pub IsHeldAs : {C F L : Type 0} → (F → Inode) → Held C F L → Type 0
IsHeldAs inode held = inode held.file ≡ inode_of held.found

-- All that was held is held still. What more is held is what was found, if the calls tell that.
pub record HoldsMore {C F L : Type 0} (tells : Bool) (inode : F → Inode) (old new : List (Held C F L)) : Type 0 where
  pub more : List (Held C F L)
  pub behind : new ≡ old ++ more
  pub found : IsTrue tells → All (IsHeldAs inode) more

-- if no folder is said to be new, none has come, and none was said to be new before
pub record TellsNewFolders {C F L : Type 0} (old new : Locks C F L) : Type 0 where
  pub none : new.has_new_folder ≡ false → new.folders.items ≡ old.folders.items
  pub before : new.has_new_folder ≡ false → old.has_new_folder ≡ false
