-- What stands in a folder, as the system tells of it.
use Rattle.std.specs.Prelude.{ℕ, ◌==◌, Bool, true, false, ◌&&◌, List, Option, Some, None, is_some}
use Rattle.folder_calls.specs.declared.found.Found.{Found}
use Rattle.folder_calls.specs.declared.found.Kind.{Kind}
use Rattle.folder_calls.specs.declared.found.Kind.TheVariants.{File, Folder, Link, Other}

-- a folder with all that is below it
pub record Tree : Type 0 where
  -- what stands at a path itself, and not behind a link
  pub stands : List ℕ → Option Found
  -- what a path leads to, over links
  pub leads : List ℕ → Option Found
  -- the names in a folder that are UTF-8, in the order in which it lists them
  pub names : List ℕ → List (List ℕ)
  -- the bytes of a regular file, by the number of its file system and its own there
  pub bytes : ℕ × ℕ → List ℕ

-- a regular file
abbrev pub is_regular : Kind → Bool
is_regular File = true
is_regular Folder = false
is_regular Link = false
is_regular Other = false

-- what was found is a regular file
abbrev pub is_file : Found → Bool
is_file found = is_regular found.kind

-- a folder
abbrev pub is_folder_kind : Kind → Bool
is_folder_kind Folder = true
is_folder_kind File = false
is_folder_kind Link = false
is_folder_kind Other = false

-- what was found is a folder
abbrev pub is_folder : Found → Bool
is_folder found = is_folder_kind found.kind

-- a link
abbrev pub is_link_kind : Kind → Bool
is_link_kind Link = true
is_link_kind File = false
is_link_kind Folder = false
is_link_kind Other = false

-- what was found is a link
abbrev pub is_link : Found → Bool
is_link found = is_link_kind found.kind

-- a link was found
abbrev pub has_link : Option Found → Bool
has_link (Some found) = is_link found
has_link None = false

-- a regular file that may stand on FAT: FAT can keep its time
abbrev pub is_fat_file : Found → Bool
is_fat_file found = is_file found && is_some found.facts.time

-- a folder that may be of FAT: FAT can keep its time
abbrev pub is_fat_folder : Found → Bool
is_fat_folder found = is_folder found && is_some found.facts.time

-- the same file, by its number and that of its file system (POSIX, sys/stat.h)
abbrev pub same_inode : Found → Found → Bool
same_inode one other = (one.device == other.device) && (one.inode == other.inode)
