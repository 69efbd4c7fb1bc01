-- `bootctl list`: the menu as text or as JSON (bootctl(1); the layouts are profile).
use Rattle.std.specs.Prelude.{ℕ, Bool, true, false, List, [], ◌∷◌, Option, Some, None, Result, Ok, Err, find}
use Rattle.boot_base.specs.declared.refusal.Refusal.{Refusal}
use Rattle.boot_base.specs.declared.refusal.Refusal.TheVariants as refusals
use Rattle.boot_machine.specs.Disk.{Files}
use Rattle.menu_order.specs.declared.item.MenuItem.{MenuItem}
use Rattle.boot_entries.specs.Listing.{list_text}
use Rattle.list_json.specs.Lines.{json_line}
use Rattle.list_json.specs.Menus.{is_untold, menu_data}
use Rattle.command_plans.specs.WordErrors.{◌>>=◌, printed_path}
use Rattle.command_plans.specs.Folders.{folders_of}
use Rattle.command_plans.specs.Menus.{menu_at}

-- the line of a menu as JSON, or the refusal of the entry that JSON can't hold
abbrev pub unless_untold : Option MenuItem → List MenuItem → Result (List ℕ) Refusal
unless_untold None menu = Ok (json_line (menu_data menu))
unless_untold (Some entry) menu = Err (refusals.NotText (printed_path entry.path))

-- a menu as JSON, or the refusal of its first entry that JSON can't hold
abbrev pub json_result : List MenuItem → Result (List ℕ) Refusal
json_result menu = unless_untold (find is_untold menu) menu

-- a menu as it is told: its text, or with the flag its JSON
abbrev pub told_menu : Bool → List MenuItem → Result (List ℕ) Refusal
told_menu false menu = Ok (list_text menu)
told_menu true menu = json_result menu

-- what is said of a menu, as text or as JSON, or that it is empty
abbrev pub menu_result : Bool → List MenuItem → Result (List ℕ) Refusal
menu_result json [] = Err refusals.NoEntries
menu_result json (item ∷ items) = told_menu json (item ∷ items)

-- what is told of an ESP by its word: its menu as text or as JSON, or the first refusal
abbrev pub list_result : Files → List ℕ → Bool → Result (List ℕ) Refusal
list_result view word json = folders_of word >>= λ folders. menu_at view folders >>= menu_result json
