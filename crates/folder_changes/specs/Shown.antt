-- How a folder shows a file that is found by a name: FAT finds it in letters of either case, and by its short alias.
use Rattle.std.specs.Prelude.{◌≡◌, ℕ, Bool, true, false, List, All, Any, Option, Some, None, is_some}
use Rattle.boot_base.specs.Paths.{file_name_of}
use Rattle.name_syncs.specs.Folders.{parent_folder}
use Rattle.name_syncs.specs.Paths.{has_path}
use Rattle.fat_rules.specs.Aliases.{IsInCapitals}
use Rattle.folder_calls.specs.Tree.{Tree, is_file}
use Rattle.folder_changes.specs.Files.{found_as}
use Rattle.folder_changes.specs.declared.twins.Spelling.{Spelling}
use Rattle.folder_changes.specs.declared.twins.Spelling.TheVariants.{AsGiven, InCapitals}

-- the folder of a path has its name as the path spells it
abbrev pub is_shown : Tree → List ℕ → Bool
is_shown tree path = has_path (tree.names (parent_folder path)) (file_name_of path)

-- one of the names is that one in capitals
abbrev pub HasCapitals : List (List ℕ) → List ℕ → Type 0
HasCapitals names name = Any (λ other. IsInCapitals other name) names

-- none is
abbrev pub HasNoCapitals : List (List ℕ) → List ℕ → Type 0
HasNoCapitals names name = All (λ other. IsInCapitals other name → ⊥) names

-- a folder with these names shows the file so: by the name itself, or else in capitals
abbrev pub IsShownAs : List (List ℕ) → List ℕ → Spelling → Type 0
IsShownAs names name AsGiven = has_path names name ≡ true
IsShownAs names name InCapitals = (has_path names name ≡ false) × HasCapitals names name

-- it shows it in neither way
abbrev pub IsShownOtherwise : List (List ℕ) → List ℕ → Type 0
IsShownOtherwise names name = (has_path names name ≡ false) × HasNoCapitals names name

-- it shows it in the one of the two ways, or in neither
abbrev pub IsShownSo : List (List ℕ) → List ℕ → Option Spelling → Type 0
IsShownSo names name None = IsShownOtherwise names name
IsShownSo names name (Some spelling) = IsShownAs names name spelling

-- a file is there, and its folder lists it, by its name or in capitals
pub record StandsListed (tree : Tree) (path : List ℕ) : Type 0 where
  pub there : is_some (found_as is_file (tree.stands path)) ≡ true
  pub spelling : Spelling
  pub listed : IsShownAs (tree.names (parent_folder path)) (file_name_of path) spelling
