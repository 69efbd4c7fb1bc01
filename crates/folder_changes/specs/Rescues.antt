-- What is done for a file whose rename was cut, so that its bytes stand under its own name.
use Rattle.std.specs.Prelude.{◌≡◌, ℕ, true, false, List, Option, Some, None, All, IsSomeAnd, String, map, nat_lt, slice_get, string_bytes}
use Rattle.std.specs.Option.{option_map}
use Rattle.std.specs.declared.alloc.Global.{Global}
use Rattle.name_syncs.specs.Folders.{parent_folder}
use Rattle.fat_rules.specs.declared.recovery.Step.{Step}
use Rattle.fat_rules.specs.declared.recovery.Step.TheVariants.{Forget, TakeAlias, AskForBytes, AskForCheck, AskForFolder, AskForName}
use Rattle.folder_calls.specs.Tree.{Tree, has_link, is_fat_file, is_fat_folder, is_folder, same_inode}
use Rattle.folder_calls.specs.declared.found.Found.{Found}
use Rattle.folder_changes.specs.Files.{fat_facts_there}
use Rattle.folder_changes.specs.Shown.{is_shown}
use Rattle.folder_changes.specs.declared.half.Aliases.{Aliases}
use Rattle.folder_changes.specs.declared.half.Rescue.{Rescue}

-- where a file is found, where it goes first if anywhere, and its own name
abbrev pub RescueParts : Type 0
RescueParts = List ℕ × Option (List ℕ) × List ℕ

-- those of a rescue
abbrev pub parts_of_rescue : Rescue → RescueParts
parts_of_rescue rescue = (string_bytes rescue.path, option_map string_bytes rescue.by, string_bytes rescue.name)

-- those of one from an alias
abbrev pub parts_from_alias : List ℕ → String Global → RescueParts
parts_from_alias name alias = (string_bytes alias, None, name)

-- A step makes this rescue: none if nothing is to do, or that from the alias at its place. One that asks for help has no
-- rescue.
abbrev pub IsRescueBy : Step → List (String Global) → List ℕ → Option Rescue → Type 0
IsRescueBy Forget aliases name rescue = rescue ≡ None
IsRescueBy (TakeAlias place) aliases name rescue =
    IsSomeAnd (slice_get aliases place)
    (λ alias. option_map parts_of_rescue rescue ≡ Some (parts_from_alias name alias))
IsRescueBy AskForBytes aliases name rescue = ⊥
IsRescueBy AskForCheck aliases name rescue = ⊥
IsRescueBy AskForFolder aliases name rescue = ⊥
IsRescueBy AskForName aliases name rescue = ⊥

-- Each of these paths is that of a file with bytes that may stand on FAT, and beside it stands what the system tells of it:
-- elsewhere a name in capitals is somebody's own.
pub record HaveBytes (tree : Tree) (aliases : Aliases) : Type 0 where
  pub told : map (λ alias. fat_facts_there tree (string_bytes alias)) aliases.paths.items ≡ map Some aliases.facts.items
  pub bytes : All (λ facts. nat_lt 0 facts.length ≡ true) aliases.facts.items

-- the file that was found at a path has its bytes, and its folder shows it as the path spells it
pub record StandsWhole (tree : Tree) (path : List ℕ) (found : Found) : Type 0 where
  pub bytes : nat_lt 0 found.facts.length ≡ true
  pub shown : is_shown tree path ≡ true

-- If the file that was found may stand on FAT it has its bytes, and its folder shows it as the path spells it.
abbrev pub NeedsNoRescue : Tree → List ℕ → Found → Type 0
NeedsNoRescue tree path found = is_fat_file found ≡ true → StandsWhole tree path found

-- what was found is a folder, and not one of FAT
pub record IsFolderOffFat (found : Found) : Type 0 where
  pub folder : is_folder found ≡ true
  pub other : is_fat_folder found ≡ false

-- a folder is there, and not on FAT. Behind a link no clause says so.
abbrev pub HasFolderOffFat : Tree → List ℕ → Type 0
HasFolderOffFat tree folder =
    has_link (tree.stands folder) ≡ false → IsSomeAnd (tree.stands folder) IsFolderOffFat

-- Of the two names of a rename one has a file that needs no rescue, and the other may be its alias. Or neither has one, and their folder is there, but not on
-- FAT: there a check may have put the bytes into a file of its own.
abbrev pub IsSaved : Tree → List ℕ → List ℕ → Option Found → Option Found → Type 0
IsSaved tree from to (Some old) (Some new) = (same_inode old new ≡ true) × NeedsNoRescue tree from old
IsSaved tree from to (Some old) None = NeedsNoRescue tree from old
IsSaved tree from to None (Some new) = NeedsNoRescue tree to new
IsSaved tree from to None None = HasFolderOffFat tree (parent_folder to)
