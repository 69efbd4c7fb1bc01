-- The files of a machine, what boot sees of them, and the state that a machine tells.
use Rattle.std.specs.Prelude.{◌≡◌, ◌⊎◌, ℕ, Bool, true, false, not, ◌&&◌, ◌||◌, List, [], ◌∷◌, ◌++◌, Option, Some, None, option_and_then}
use Rattle.std.specs.Ordering.{nat_cmp, eq_by_cmp}
use Rattle.std.specs.declared.cmp.Ordering.{Ordering}
use Rattle.std.specs.Cmp.Lexicographic.{slice_cmp}
use Rattle.std.specs.FinMap as map
use Rattle.std.specs.FinSet as set
use Rattle.boot_base.specs.Paths.{Path, is_temp, intent, read_intent}
use Rattle.boot_machine.specs.declared.machine.Printed.{Printed}

-- the order of paths: that of their bytes, a first part before the whole
abbrev pub path_cmp : Path → Path → Ordering
path_cmp = slice_cmp nat_cmp

-- the two paths are one
abbrev pub is_same_path : Path → Path → Bool
is_same_path q p = eq_by_cmp path_cmp q p

-- files by their paths
abbrev pub Files : Type 0
Files = map.FinMap path_cmp (List ℕ)

-- a set of paths
abbrev pub Paths : Type 0
Paths = set.FinSet path_cmp

-- a file is there at this path
abbrev pub has : Files → Path → Bool
has files path = map.contains_key files path

-- the file at this path isn't a temporary one
unfoldable pub is_shown : Files → Path → Bool
is_shown files path = not (is_temp path)

-- the files without the temporary ones, as every command reads them
unfoldable pub view : Files → Files
view files = map.retain_keys files (is_shown files)

-- what an intent says of its two names; false where there is none in the right form
abbrev pub of_intent : Option (Path × Path) → (Path → Path → Bool) → Bool
of_intent None test = false
of_intent (Some names) test = test names.0 names.1

-- the two names of the intent, the old and the new one, where an intent is there in the right form
abbrev pub intent_names : Files → Option (Path × Path)
intent_names files = option_and_then read_intent (map.get files intent)

-- the rename that the intent names has left both names, and this is the old one
unfoldable pub is_left : Files → Path → Bool
is_left files path =
    of_intent (intent_names files) (λ from to. is_same_path path from && has files from && has files to)

-- no rename is half done
pub record HasNoHalfRename (files : Files) : Type 0 where
  pub none : (path : Path) → is_left files path ≡ false

-- the file at this path is there still once a recovery has run, and isn't a temporary one
unfoldable pub is_recovered : Files → Path → Bool
is_recovered files path = not (is_temp path) && not (is_same_path path intent) && not (is_left files path)

-- The recovered view: what `view` will be once a recovery has run. It has neither the intent nor the old name of a
-- rename that is half done. What a stop may leave counts by it. Where no intent is there, as whenever a command reads,
-- it is `view`.
unfoldable pub recovered_view : Files → Files
recovered_view files = map.retain_keys files (is_recovered files)

-- the intent names this path
unfoldable pub is_intended : Files → Path → Bool
is_intended files path = of_intent (intent_names files) (λ from to. is_same_path path from || is_same_path path to)

-- what a machine holds
pub record State : Type 0 where
  pub files : Files
  -- the files as they were at the last sync of names and after each change of names since, but for the last
  pub earlier : List Files
  -- the paths whose contents aren't synced
  pub soft : Paths
  pub printed : List Printed
  -- the bytes of standard input that aren't taken yet
  pub input : List ℕ

-- the file maps whose names a stop may leave, the last one being `files`
abbrev pub candidates : State → List Files
candidates s = s.earlier ++ s.files ∷ []

-- the map is one of these
abbrev pub IsIn : Files → List Files → Type 0
IsIn m [] = ⊥
IsIn m (c ∷ cs) = (m ≡ c) ⊎ IsIn m cs

-- a stop may leave the names of this map
abbrev pub IsCandidate : State → Files → Type 0
IsCandidate s c = IsIn c (candidates s)

-- every stop leaves the names that are there: all changes of names are synced
abbrev pub HasOneCandidate : State → Type 0
HasOneCandidate s = s.earlier ≡ []

-- each soft path is a path of some candidate
pub record IsSound (s : State) : Type 0 where
  pub somewhere : (q : Path) → set.contains s.soft q ≡ true → (c : Files) × IsCandidate s c × (has c q ≡ true)

-- no intent is there, so that no rename waits for a recovery
abbrev pub IsRested : State → Type 0
IsRested s = has s.files intent ≡ false
