-- A menu as JSON, or its first entry that JSON can't hold.
use Rattle.std.proofs.Common.{◌≡◌, ℕ, ◌<◌, List, length, get_or, Option, Some, None, Ok, Err, ap, sym, ◌∙◌, slice_get}
use Rattle.std.proofs.lemmas.Option.{slice_get-get_or}
use Rattle.boot_base.specs.declared.refusal.Refusal.{Refusal}
use Rattle.boot_base.specs.declared.refusal.Refusal.TheVariants as refusals
use Rattle.menu_order.specs.declared.item.MenuItem.{MenuItem}
use Rattle.list_json.specs.Lines.{json_line}
use Rattle.list_json.specs.Menus.{menu_data}
use Rattle.command_plans.specs.Prelude.{printed_path}
use Rattle.entry_commands.specs.Listing.{unless_untold}

pub told_line : (found : Option MenuItem) (menu : List MenuItem) (line : List ℕ) → found ≡ None → line ≡ json_line (menu_data menu) → unless_untold found menu ≡ Ok line
told_line found menu line none is = ap (λ f. unless_untold f menu) none ∙ ap Ok (sym is)

pub told_refusal : (found : Option MenuItem) (menu : List MenuItem) (i : ℕ) (entry : MenuItem) (why : Refusal)
    → i < length menu → found ≡ slice_get menu i → entry ≡ get_or menu i entry → why ≡ refusals.NotText (printed_path entry.path)
    → unless_untold found menu ≡ Err why
told_refusal found menu i entry why inside first is refused =
    ap (λ f. unless_untold f menu) (first ∙ slice_get-get_or menu i entry inside ∙ ap Some (sym is)) ∙ ap Err (sym refused)
