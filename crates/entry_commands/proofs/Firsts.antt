-- The first entry of a menu.
use Rattle.std.proofs.Common.{◌≡◌, arith, List, [], ◌∷◌, true, Some, Ok, ap, ◌∙◌, is_some, Contains, slice_get}
use Rattle.boot_entries.specs.Entries.{IsEntry}
use Rattle.boot_entries.specs.declared.folders.Folders.{Folders}
use Rattle.boot_entries.proofs.Places.{path_shown}
use Rattle.boot_machine.specs.Prelude.{Files, has, view}
use Rattle.boot_machine.proofs.Views.{has-view}
use Rattle.menu_order.specs.Menu.{IsMenu}
use Rattle.menu_order.specs.declared.item.MenuItem.{MenuItem}
use Rattle.entry_commands.specs.Booting.{first_of}

module _ (files : Files) (folders : Folders) (menu : List MenuItem) (item : MenuItem) (is_menu : IsMenu (IsEntry files folders) menu) (is : Some item ≡ slice_get menu 0) where
  in_menu : Contains menu item
  in_menu = head_in menu is
    where
      head_in : (items : List MenuItem) → Some item ≡ slice_get items 0 → Contains items item
      head_in [] at = cc
      head_in (first ∷ later) at = (0, omega arith, one at)
        where
          one : {first : MenuItem} → Some item ≡ Some first → first ≡ item
          one at = cc

  entry : IsEntry files folders item
  entry = (is_menu.entries item).0 in_menu

  -- a file is there
  pub first_there : has (view files) item.path ≡ true
  first_there = has-view files item.path (path_shown item.path entry.is_path) ∙ ap is_some entry.there

pub first_is : (menu : List MenuItem) (item : MenuItem) → Some item ≡ slice_get menu 0 → first_of menu ≡ Ok item
first_is [] item at = cc
first_is (first ∷ later) item at = ap (λ (o : MenuItem). Ok o) (one at)
  where
    one : {first : MenuItem} → Some item ≡ Some first → first ≡ item
    one at = cc
