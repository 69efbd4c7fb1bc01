-- What is printed as JSON is read as it is meant.
use Rattle.std.specs.Prelude.{◌≡◌, ℕ, true, List, Ok}
use Rattle.boot_machine.specs.Disk.{Files}
use Rattle.boot_entries.specs.Entries.{boot_menu}
use Rattle.boot_entries.specs.declared.folders.Folders.{Folders}
use Rattle.list_json.specs.Lines.{ReadsAs}
use Rattle.list_json.specs.Menus.{menu_data}
use Rattle.command_plans.specs.Folders.{folders_of}
use Rattle.entry_commands.specs.Listing.{list_result}

-- What `bootctl list --json` prints is read as the menu of the folders that its word names (RFC 8259).
abbrev pub ListReadsBack : Type 0
ListReadsBack =
    (view : Files) (word text : List ℕ) (folders : Folders)
    → folders_of word ≡ Ok folders
    → list_result view word true ≡ Ok text
    → ReadsAs text (menu_data (boot_menu view folders))
