-- Which file an open one is, and what is believed of what stands at a path.
use Rattle.std.specs.Prelude.{◌≡◌, ◌⊎◌, ℕ, ◌==◌, Bool, true, false, ◌&&◌, List, Option, Some, None, IsSomeAnd, is_some}
use Rattle.std.specs.Option.{option_map_or}
use Rattle.boot_base.specs.Intents.{names_of}
use Rattle.boot_base.specs.Paths.{read_intent}
use Rattle.boot_base.specs.declared.intent.IntentNames.{IntentNames}
use Rattle.folder_calls.specs.Calls.{Inode, inode_of}
use Rattle.folder_calls.specs.Tree.{Tree, is_file, same_inode}
use Rattle.folder_calls.specs.declared.found.Found.{Found}

-- what stands at a path is what was found
abbrev pub stands_still : Tree → List ℕ → Found → Bool
stands_still tree path found = option_map_or (λ other. same_inode other found) (tree.stands path) false

-- the open file is the regular file that stands at a path
abbrev pub IsFileAt : Tree → List ℕ → Inode → Type 0
IsFileAt tree path inode =
    IsSomeAnd (tree.stands path) (λ found. (is_file found ≡ true) × (inode_of found ≡ inode))

-- a regular file with one hard link
abbrev pub is_plain_file : Option Found → Bool
is_plain_file None = false
is_plain_file (Some found) = is_file found && (found.facts.links == 1)

-- the bytes of some file name this move
abbrev pub IsRead : IntentNames → Type 0
IsRead names = (bytes : List ℕ) × (read_intent bytes ≡ Some (names_of names))

-- something stands at a path, or behind the link there
abbrev pub IsThere : Tree → List ℕ → Type 0
IsThere tree path = (is_some (tree.stands path) ≡ true) ⊎ (is_some (tree.leads path) ≡ true)
