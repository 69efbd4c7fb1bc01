-- The folders above a path, and sets of folders. The folder of no name is the one that the program starts in.
use Rattle.std.specs.Prelude.{◌≡◌, ◌⊎◌, ◌↔◌, ℕ, Bool, true, false, ◌&&◌, List, [], ◌∷◌, ◌++◌, map, if◌then◌else◌}
use Rattle.std.specs.List.{list_any}
use Rattle.boot_base.specs.Paths.{is_slash, under}
use Rattle.name_syncs.specs.Paths.{has_path, with_path}
use Rattle.name_syncs.specs.declared.folders.FolderSet.{FolderSet}

-- what a path has before each of its slashes, the longest first
abbrev pub parts_before_slashes : List ℕ → List (List ℕ)
parts_before_slashes [] = []
parts_before_slashes (byte ∷ rest) =
    map (λ part. byte ∷ part) (parts_before_slashes rest) ++ (if is_slash byte then [] ∷ [] else [])

-- the folders above a path, the nearest first and the starting one last
abbrev pub folders_above : List ℕ → List (List ℕ)
folders_above path = parts_before_slashes path ++ [] ∷ []

-- the first of some folders
abbrev pub nearest : List (List ℕ) → List ℕ
nearest [] = []
nearest (folder ∷ higher) = folder

-- the folder that a path is in
abbrev pub parent_folder : List ℕ → List ℕ
parent_folder path = nearest (parts_before_slashes path)

-- the path of a name in a folder
abbrev pub path_in : List ℕ → List ℕ → List ℕ
path_in [] name = name
path_in (byte ∷ folder) name = under (byte ∷ folder) name

-- a path is cut at its last slash
pub record IsCut (path folder name : List ℕ) : Type 0 where
  pub whole : path ≡ folder ++ 47 ∷ name
  pub last : list_any is_slash name ≡ false

-- the folder is among these
abbrev pub has_folder : FolderSet → List ℕ → Bool
has_folder folders [] = folders.has_root
has_folder folders (byte ∷ rest) = has_path folders.below (byte ∷ rest)

-- these and the folder
abbrev pub with_folder : FolderSet → List ℕ → FolderSet
with_folder folders [] = record folders { has_root = true }
with_folder folders (byte ∷ rest) = record folders { below = with_path folders.below (byte ∷ rest) }

-- these and more folders, in their order
abbrev pub with_folders : FolderSet → List (List ℕ) → FolderSet
with_folders folders [] = folders
with_folders folders (folder ∷ more) = with_folders (with_folder folders folder) more

-- The folders as they are gone through: those below the starting one in the order in which they came, that one last.
abbrev pub listed : FolderSet → List (List ℕ)
listed folders = folders.below ++ (if folders.has_root then [] ∷ [] else [])

-- the folders above one, without each that is settled like the folder below it
abbrev pub unsettled_above : FolderSet → List ℕ → List (List ℕ) → List (List ℕ)
unsettled_above settled below [] = []
unsettled_above settled below (folder ∷ higher) =
    if has_folder settled below && has_folder settled folder then unsettled_above settled folder higher
    else (folder ∷ unsettled_above settled folder higher)

-- some folders from the nearest on, without each above it that is settled like the folder below it
abbrev pub unsettled : FolderSet → List (List ℕ) → List (List ℕ)
unsettled settled [] = []
unsettled settled (folder ∷ higher) = folder ∷ unsettled_above settled folder higher

-- the folder is the starting one, or the path leads through it
abbrev pub IsAbove : List ℕ → List ℕ → Type 0
IsAbove folder path = (folder ≡ []) ⊎ ((rest : List ℕ) × (path ≡ folder ++ 47 ∷ rest))

-- the folders above a path are those and no others
abbrev pub FoldersAreAbove : Type 0
FoldersAreAbove = (path folder : List ℕ) → (has_path (folders_above path) folder ≡ true) ↔ IsAbove folder path

-- What is added is gone through, and so is what was noted before.
abbrev pub NotedAreListed : Type 0
NotedAreListed =
    (folders : FolderSet) (more : List (List ℕ)) (folder : List ℕ)
    → (has_path (listed folders) folder ≡ true) ⊎ (has_path more folder ≡ true)
    → has_path (listed (with_folders folders more)) folder ≡ true
