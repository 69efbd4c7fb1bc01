-- `tidy`: no temporary file is left directly in the folders of boot entries.
use Rattle.std.specs.Prelude.{◌≡◌, ◌⊎◌, ℕ, true, false, List, Result, Ok, Err, Contains, map, filter}
use Rattle.std.specs.FinMap.{get}
use Rattle.boot_base.specs.Paths.{Path, under, is_file_name, is_temp}
use Rattle.boot_base.specs.declared.refusal.Refusal.{Refusal}
use Rattle.boot_machine.specs.Disk.{Files, has}
use Rattle.command_plans.specs.Answers.{Answer, done_answer}
use Rattle.command_plans.specs.Folders.{folders_of}
use Rattle.command_plans.specs.Makeable.{cleaned_text}
use Rattle.boot_entries.specs.declared.folders.Folders.{Folders}

-- the view stays
abbrev pub tidy_answer : Files → Folders → Answer
tidy_answer view folders = done_answer view cleaned_text

-- no temporary file is directly in the folder
abbrev pub IsClean : Files → Path → Type 0
IsClean files folder =
    (name : List ℕ) → is_file_name name ≡ true → is_temp name ≡ true → has files (under folder name) ≡ false

-- nor in either of an ESP's folders
abbrev pub AreClean : Files → Folders → Type 0
AreClean files folders = IsClean files folders.entries × IsClean files folders.images

-- what is left after the tidying of an ESP whose folders have paths
abbrev pub CleanAt : Files → Result Folders Refusal → Type 0
CleanAt files (Ok folders) = AreClean files folders
CleanAt files (Err why) = Unit {0}

-- no temporary file stands in the two folders of the ESP that a word names
abbrev pub IsTidied : List ℕ → Files → Type 0
IsTidied word files = CleanAt files (folders_of word)

-- the paths of the temporary files among these names of a folder
abbrev pub leftovers_among : Path → List (List ℕ) → List Path
leftovers_among folder listed = map (under folder) (filter is_temp listed)

-- every temporary file directly in the folder is among these
abbrev pub HasLeftovers : Files → Path → List Path → Type 0
HasLeftovers files folder temps =
    (name : List ℕ) → is_file_name name ≡ true → is_temp name ≡ true → has files (under folder name) ≡ true
    → Contains temps (under folder name)

-- the path of a file directly in the folder
abbrev pub IsDirectlyIn : Path → Path → Type 0
IsDirectlyIn folder q = (name : List ℕ) × (is_file_name name ≡ true) × (q ≡ under folder name)

-- the path of a file directly in one of the two folders, if there are such
abbrev pub StandsAt : Result Folders Refusal → Path → Type 0
StandsAt (Ok folders) q = IsDirectlyIn folders.entries q ⊎ IsDirectlyIn folders.images q
StandsAt (Err why) q = ⊥

-- the temporary files that stand elsewhere than in the two folders of the ESP that a word names are as they were
abbrev pub KeepsElsewhere : List ℕ → Files → Files → Type 0
KeepsElsewhere word old new =
    (q : Path) → is_temp q ≡ true → (StandsAt (folders_of word) q → ⊥) → get new q ≡ get old q
