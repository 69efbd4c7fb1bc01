-- What `bootctl list --json` prints is read as the menu.
use Rattle.std.proofs.Common.{◌≡◌, ℕ, Bool, true, false, cond, List, [], ◌∷◌, Option, Some, None, Ok, Err, refl, sym, ap, ◌∙◌, subst, find, nat_lt}
use Rattle.boot_base.specs.declared.refusal.Refusal.{Refusal}
use Rattle.boot_entries.specs.Entries.{boot_menu, entry_count}
use Rattle.menu_order.specs.declared.item.MenuItem.{MenuItem}
use Rattle.list_json.proofs.HeldAnswers.{menus_read_back}
use Rattle.list_json.specs.Lines.{ReadsAs, json_line}
use Rattle.list_json.specs.Menus.{is_untold, menu_data}
use Rattle.command_plans.proofs.WordErrors.{done_next}
use Rattle.command_plans.proofs.Steps.{done_by}
use Rattle.command_plans.specs.Prelude.{folders_of, menu_at}
use Rattle.entry_commands.specs.Laws.{ListReadsBack}
use Rattle.entry_commands.specs.Listing.{menu_result, unless_untold}
use Rattle.entry_commands.proofs.ListedCounters.{menu_fits}

-- the line is that of a menu that JSON can hold
told_line : (found : Option MenuItem) (menu : List MenuItem) (text : List ℕ) → unless_untold found menu ≡ Ok text → (found ≡ None) × (json_line (menu_data menu) ≡ text)
told_line None menu text is = (refl, cc)
told_line (Some entry) menu text is = cc

line_is : (menu : List MenuItem) (text : List ℕ) → menu_result true menu ≡ Ok text → (find is_untold menu ≡ None) × (json_line (menu_data menu) ≡ text)
line_is [] text is = cc
line_is (item ∷ items) text is = told_line (find is_untold (item ∷ items)) (item ∷ items) text is

shown_is : (many : Bool) (why : Refusal) (shown menu : List MenuItem) → cond many (Err why) (Ok shown) ≡ Ok menu → shown ≡ menu
shown_is true why shown menu is = cc
shown_is false why shown menu is = cc

pub list_reads_back : ListReadsBack
list_reads_back view word text folders found is =
    let listed = done_by (menu_at view folders) (menu_result true) text (sym (done_next (folders_of word) folders _ found) ∙ is) in
    let shown = shown_is (nat_lt 4096 (entry_count view folders)) _ (boot_menu view folders) listed.0 listed.1 in
    let line = line_is (boot_menu view folders) text (ap (menu_result true) shown ∙ listed.2) in
    subst (λ line. ReadsAs line (menu_data (boot_menu view folders))) line.1 (menus_read_back (boot_menu view folders) line.0 (menu_fits view folders))
