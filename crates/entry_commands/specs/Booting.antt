-- `boot`: a boot of the first entry of the menu is counted, as the loader counts it (UAPI Boot Loader Specification,
-- "Boot counting"). An entry without a counter, or with no boot left, keeps its name.
use Rattle.std.specs.Prelude.{ℕ, List, [], ◌∷◌, ◌++◌, codes, Option, Some, None, Result, Ok, Err, if◌then◌else◌}
use Rattle.boot_base.specs.Paths.{Path, file_name_of}
use Rattle.boot_base.specs.declared.refusal.Refusal.{Refusal}
use Rattle.boot_base.specs.declared.refusal.Refusal.TheVariants as refusals
use Rattle.menu_order.specs.Renames.{booted_name_of}
use Rattle.boot_entries.specs.Entries.{folder_of}
use Rattle.boot_entries.specs.declared.folders.Folders.{Folders}
use Rattle.boot_machine.specs.Disk.{Files, has}
use Rattle.boot_machine.specs.Rows.{move_in}
use Rattle.command_plans.specs.Answers.{Answer, answer_or_refusal, done_answer}
use Rattle.command_plans.specs.WordErrors.{◌>>=◌, path_under, printed_path}
use Rattle.command_plans.specs.Folders.{folders_of}
use Rattle.command_plans.specs.Menus.{menu_at}
use Rattle.menu_order.specs.declared.item.MenuItem.{MenuItem}

-- the first entry of a menu
abbrev pub first_of : List MenuItem → Result MenuItem Refusal
first_of [] = Err refusals.NoEntries
first_of (item ∷ items) = Ok item

-- what is told of the path that was booted
abbrev pub booted_text : Path → List ℕ
booted_text path = codes "booted " ++ (printed_path path ++ codes "\n")

-- an entry gets another name, unless a file has that name
abbrev pub renamed_entry : Files → Path → Path → Result Answer Refusal
renamed_entry view from to =
    if has view to then Err (refusals.TargetExists (printed_path to))
    else Ok (done_answer (move_in from to view) (booted_text to))

-- what becomes of the entry at a path in a folder, by its name after the boot
abbrev pub booted_entry : Files → Path → Path → Option (List ℕ) → Result Answer Refusal
booted_entry view folder path None = Ok (done_answer view (booted_text path))
booted_entry view folder path (Some name) = path_under folder name >>= renamed_entry view path

-- what becomes of an entry of the menu: it has a try less, where it has one left
abbrev pub boot_entry : Files → Folders → MenuItem → Result Answer Refusal
boot_entry view folders item =
    booted_entry view (folder_of folders item.suffix) item.path (booted_name_of (file_name_of item.path))

-- a boot of an ESP by its word
abbrev pub boot_result : Files → List ℕ → Result Answer Refusal
boot_result view word =
    folders_of word >>= λ folders. menu_at view folders >>= λ menu. first_of menu >>= boot_entry view folders

-- what `boot` answers
abbrev pub boot_answer : Files → List ℕ → Answer
boot_answer view word = answer_or_refusal view (boot_result view word)
