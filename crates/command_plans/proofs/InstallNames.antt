-- A name that is taken for an entry.
use Rattle.std.proofs.Common.{◌≡◌, ℕ, Bool, true, false, List, Ok, Err, refl, if◌then◌else◌}
use Rattle.std.specs.List.{list_all, list_any}
use Rattle.std.proofs.lemmas.Bool.{and_parts}
use Rattle.boot_base.specs.Paths.{is_slash}
use Rattle.boot_base.specs.declared.refusal.Refusal.TheVariants as refusals
use Rattle.menu_order.specs.InstallNames.{is_entry_name_byte, is_install_name, is_name_text}
use Rattle.menu_order.specs.declared.counted.Suffix.{Suffix}
use Rattle.menu_order.proofs.InstallNames.{name_slash}
use Rattle.command_plans.specs.Prelude.{install_name}
use Rattle.command_plans.proofs.Steps.{err_ok, ok_is}

taken_by : (name taken : List ℕ) (fits : Bool) → (if fits then Ok name else Err (refusals.BadName name)) ≡ Ok taken
    → (fits ≡ true) × (name ≡ taken)
taken_by name taken true is = (refl, ok_is name taken is)
taken_by name taken false is = absurd (err_ok (refusals.BadName name) taken is)

-- it is the name that was given
pub taken_is : (suffix : Suffix) (name taken : List ℕ) → install_name suffix name ≡ Ok taken → name ≡ taken
taken_is suffix name taken is = (taken_by name taken (is_install_name suffix name) is).1

-- it has no slash
pub taken_slash : (suffix : Suffix) (name taken : List ℕ) → install_name suffix name ≡ Ok taken
    → list_any is_slash name ≡ false
taken_slash suffix name taken is =
    let fits = and_parts (is_name_text name) _ (taken_by name taken (is_install_name suffix name) is).0 in
    let text = and_parts _ _ fits.0 in
    name_slash name (and_parts _ (list_all is_entry_name_byte name) text.0).1
