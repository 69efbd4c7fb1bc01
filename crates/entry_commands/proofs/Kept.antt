-- The entries that go are those of the menu.
use Rattle.std.proofs.Common.{◌≡◌, ℕ, Bool, List, [], ◌∷◌, ◌++◌, Ok, ◌∙◌, Contains}
use Rattle.std.proofs.lemmas.List.Elements.{Contains-append_right}
use Rattle.std.proofs.lemmas.List.Sorted.{Contains-permutation, IsPermutation-sym}
use Rattle.boot_base.specs.Paths.{Path}
use Rattle.boot_entries.specs.declared.folders.Folders.{Folders}
use Rattle.boot_machine.specs.Prelude.{Files}
use Rattle.menu_order.specs.declared.item.MenuItem.{MenuItem}
use Rattle.menu_order.proofs.Parting.{parts_menu}
use Rattle.menu_order.specs.Doomed.{doomed_records, kept_records}
use Rattle.menu_order.specs.KeepLaws.{doomed_paths}
use Rattle.tool_words.specs.declared.command.KeepWords.{KeepWords}
use Rattle.command_plans.proofs.WordErrors.{done_next}
use Rattle.command_plans.specs.Prelude.{folders_of, menu_at}
use Rattle.entry_commands.specs.Counts.{count_in}
use Rattle.entry_commands.specs.Keeping.{keep_result, menu_paths}

-- of a menu that has an entry
pub doomed_are : (n : ℕ) (per_key : Bool) (menu : List MenuItem) (paths : List Path) → menu_paths n per_key menu ≡ Ok paths → doomed_paths n per_key menu ≡ paths
doomed_are n per_key [] paths is = cc
doomed_are n per_key (first ∷ later) paths is = cc

-- what goes is in the menu
pub doomed_in : (n : ℕ) (per_key : Bool) (menu : List MenuItem) (item : MenuItem) → Contains (doomed_records n per_key menu) item → Contains menu item
doomed_in n per_key menu item is =
    let kept : List MenuItem = kept_records n per_key menu in
    let doomed : List MenuItem = doomed_records n per_key menu in
    Contains-permutation (kept ++ doomed) menu item (IsPermutation-sym menu (kept ++ doomed) (parts_menu n per_key menu))
    (Contains-append_right kept doomed item is)

-- what the words come to, step by step
pub result_is : (view : Files) (words : KeepWords) (n : ℕ) (folders : Folders) (menu : List MenuItem) (paths : List Path)
    → count_in words.number ≡ Ok n → folders_of words.esp ≡ Ok folders → menu_at view folders ≡ Ok menu → menu_paths n words.per_key menu ≡ Ok paths
    → keep_result view words ≡ Ok paths
result_is view words n folders menu paths number esp shown doomed =
    done_next (count_in words.number) n _ number ∙ done_next (folders_of words.esp) folders _ esp ∙ done_next (menu_at view folders) menu _ shown ∙ doomed
