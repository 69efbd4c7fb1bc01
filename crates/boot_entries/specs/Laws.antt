-- The laws of the entries of boot files.
use Rattle.std.specs.Prelude.{◌≡◌, ◌≤◌, List}
use Rattle.boot_base.specs.Paths.{Path}
use Rattle.boot_machine.specs.Disk.{Files, view}
use Rattle.menu_order.specs.Menu.{HaveOwnPaths, IsMenu}
use Rattle.boot_entries.specs.Entries.{IsEntry, boot_menu, entry_count}
use Rattle.boot_entries.specs.Removals.{menu_without, remove_files}
use Rattle.boot_entries.specs.declared.folders.Folders.{Folders}

-- the function gives the menu of the entries
abbrev pub EntriesMenu : Type 0
EntriesMenu = (files : Files) (folders : Folders) → IsMenu (IsEntry files folders) (boot_menu files folders)

-- no temporary file is an entry
abbrev pub ViewMenu : Type 0
ViewMenu = (files : Files) (folders : Folders) → boot_menu (view files) folders ≡ boot_menu files folders

-- nor is one counted
abbrev pub ViewCount : Type 0
ViewCount = (files : Files) (folders : Folders) → entry_count (view files) folders ≡ entry_count files folders

-- if files go, the menu is without their entries and has all others in their order
abbrev pub RemovalMenu : Type 0
RemovalMenu = (files : Files) (folders : Folders) (paths : List Path)
    → boot_menu (remove_files files paths) folders ≡ menu_without paths (boot_menu files folders)

-- and there are no more entry files than before
abbrev pub RemovalCount : Type 0
RemovalCount = (files : Files) (folders : Folders) (paths : List Path)
    → entry_count (remove_files files paths) folders ≤ entry_count files folders

-- no two entries of a menu have one path
abbrev pub OwnPaths : Type 0
OwnPaths = (files : Files) (folders : Folders) → HaveOwnPaths (boot_menu files folders)
