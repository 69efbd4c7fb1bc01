-- What is in the way of a new name: FAT would hand its spelling on, or refuse the name.
use Rattle.std.specs.Prelude.{◌≡◌, ◌⊎◌, ℕ, true, false, List, Option, Some, None, IsSomeAnd, String, string_bytes}
use Rattle.std.specs.declared.alloc.Global.{Global}
use Rattle.boot_base.specs.Paths.{file_name_of}
use Rattle.name_syncs.specs.Folders.{parent_folder}
use Rattle.fat_rules.specs.Aliases.{IsInCapitals}
use Rattle.name_syncs.specs.Folders.{path_in}
use Rattle.folder_calls.specs.Calls.{has_same_bytes}
use Rattle.folder_calls.specs.Tree.{Tree, is_file}
use Rattle.folder_calls.specs.declared.found.Found.{Found}
use Rattle.folder_changes.specs.Files.{found_as}
use Rattle.folder_changes.specs.Shown.{HasNoCapitals, is_shown}

-- what was found has no bytes, or those of the file at a path
abbrev pub HasNoBytesBut : Tree → List ℕ → Found → Type 0
HasNoBytesBut tree path found =
    (found.facts.length ≡ 0)
    ⊎ IsSomeAnd (found_as is_file (tree.stands path)) (λ moved. has_same_bytes tree found moved ≡ true)

-- a file is there which has no bytes, or those of the file that gets its name
abbrev pub HasNoOtherBytes : Tree → List ℕ → List ℕ → Type 0
HasNoOtherBytes tree from way = IsSomeAnd (found_as is_file (tree.stands way)) (HasNoBytesBut tree from)

-- This is in the way of a new name: the folder doesn't list that, but what it lists at this path is the name in capitals.
pub record IsWay (tree : Tree) (from to way : List ℕ) : Type 0 where
  pub hidden : is_shown tree to ≡ false
  pub name : List ℕ
  pub capitals : IsInCapitals name (file_name_of to)
  pub path : way ≡ path_in (parent_folder to) name
  pub bytes : HasNoOtherBytes tree from way

-- What is in the way, if something is: nothing is if the folder lists the name, or none in capitals of it.
abbrev pub IsInTheWay : Tree → List ℕ → List ℕ → Option (String Global) → Type 0
IsInTheWay tree from to None =
    (is_shown tree to ≡ true) ⊎ HasNoCapitals (tree.names (parent_folder to)) (file_name_of to)
IsInTheWay tree from to (Some way) = IsWay tree from to (string_bytes way)
