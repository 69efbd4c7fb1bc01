-- What a scan of two folders comes to.
use Rattle.std.proofs.Common.{◌≡◌, ◌≤◌, ◌<◌, arith, ℕ, List, true, false, Ok, Err, ap, refl, sym, nat_lt}
use Rattle.std.proofs.lemmas.Bool.Decides.{nat_tests}
use Rattle.boot_base.specs.declared.refusal.Refusal.TheVariants as refusals
use Rattle.boot_machine.specs.Prelude.{Files, view}
use Rattle.menu_order.specs.declared.item.MenuItem.{MenuItem}
use Rattle.boot_entries.specs.Entries.{boot_menu, entry_count}
use Rattle.boot_entries.specs.Scanning.{menu_many}
use Rattle.boot_entries.specs.declared.fault.MenuFault.{MenuFault}
use Rattle.boot_entries.specs.declared.fault.MenuFault.TheVariants as menus
use Rattle.boot_entries.specs.declared.folders.Folders.{Folders}
use Rattle.boot_entries.proofs.EntryFiles.{view_count}
use Rattle.command_plans.specs.Prelude.{ReadErrorFor, menu_at, menu_read_error}

not_many : (n : ℕ) → n ≤ 4096 → nat_lt 4096 n ≡ false
not_many n few = grind (arith, nat_tests)

are_many : (n : ℕ) → 4096 < n → nat_lt 4096 n ≡ true
are_many n many = grind (arith, nat_tests)

-- few files have a menu
pub few_said : (files : Files) (folders : Folders) (menu : List MenuItem) → entry_count files folders ≤ 4096
    → menu ≡ boot_menu (view files) folders → menu_at (view files) folders ≡ Ok menu
few_said files folders menu few is =
    rw (view_count files folders, not_many (entry_count files folders) few) (ap (λ (m : List MenuItem). Ok m) (sym is))

-- too many are refused
pub many_said : (files : Files) (folders : Folders) (count : ℕ) → 4096 < count → entry_count files folders ≡ count
    → menu_at (view files) folders ≡ Err (refusals.TooMany count)
many_said files folders count many is = rw (view_count files folders, is, are_many count many) refl

-- what a fault of the scan is told as
pub read_error_menu : (Told : Type 0) (files : Files) (folders : Folders) (fault : MenuFault) → Told
    → menu_many fault (λ count. (4096 < count) × (Told → entry_count files folders ≡ count))
    → ReadErrorFor (menu_read_error fault) (menu_at (view files) folders)
read_error_menu Told files folders menus.Memory told many = tt
read_error_menu Told files folders menus.Disk told many = tt
read_error_menu Told files folders (menus.TooMany count) told many = many_said files folders count many.0 (many.1 told)
