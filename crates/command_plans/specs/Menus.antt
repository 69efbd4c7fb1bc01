-- The menu that a command shows, changes or chooses of (UAPI Boot Loader Specification).
use Rattle.std.specs.Prelude.{ℕ, List, nat_lt, Result, Ok, Err, if◌then◌else◌}
use Rattle.boot_base.specs.declared.refusal.Refusal.{Refusal}
use Rattle.boot_base.specs.declared.refusal.Refusal.TheVariants as refusals
use Rattle.boot_machine.specs.Disk.{Files}
use Rattle.menu_order.specs.declared.item.MenuItem.{MenuItem}
use Rattle.boot_entries.specs.Entries.{boot_menu, entry_count, entry_limit}
use Rattle.boot_entries.specs.Scanning.{scan_limit}
use Rattle.boot_entries.specs.declared.fault.MenuFault.{MenuFault}
use Rattle.boot_entries.specs.declared.fault.MenuFault.TheVariants as menus
use Rattle.boot_entries.specs.declared.folders.Folders.{Folders}
use Rattle.command_plans.specs.declared.read_error.ReadError.{ReadError}
use Rattle.command_plans.specs.declared.read_error.ReadError.TheVariants as read_errors

-- the menu of two folders, or that they have more than 4,096 entry files
abbrev pub menu_at : Files → Folders → Result (List MenuItem) Refusal
menu_at view folders =
    if nat_lt entry_limit (entry_count view folders) then Err (refusals.TooMany (entry_count view folders))
    else Ok (boot_menu view folders)

-- why nothing is said of folders that have no menu
abbrev pub menu_read_error : MenuFault → ReadError
menu_read_error menus.Memory = read_errors.Memory
menu_read_error menus.Disk = read_errors.Disk
menu_read_error (menus.TooMany count) = read_errors.Refused (refusals.TooMany count)

-- the most bytes that a command reads for the menu of the folders of a word: as many as a scan of them, none where the
-- word is refused
abbrev pub menu_limit : Files → Result Folders Refusal → ℕ
menu_limit files (Ok folders) = scan_limit files folders
menu_limit files (Err why) = 0
