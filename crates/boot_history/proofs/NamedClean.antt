-- A cleanup keeps the payloads that count, after each of its actions.
use Rattle.std.proofs.Common.{◌≡◌, inl, inr, ⊎_elim, ℕ, Bool, true, false, not, List, [], ◌∷◌, ◌++◌, Option, Some, None, Ok, refl, sym, ap, ◌∙◌, subst, All, Contains, bytes_eq, codes, nat_lt, option_to_list}
use Rattle.std.specs.FinMap as map_of
use Rattle.std.specs.List.{list_any}
use Rattle.std.proofs.lemmas.Bool.{and_parts, not-true, or_parts}
use Rattle.std.proofs.lemmas.List.{append_cancel_right}
use Rattle.std.proofs.lemmas.List.Elements.{All-cons, All-contains, All-nil, All-weaker, Contains-append_cases, Contains-append_left, Contains-append_right}
use Rattle.std.proofs.lemmas.Slice.Eq.{bytes_eq-Decides}
use Rattle.boot_base.specs.Layout.{payloads_below}
use Rattle.boot_base.specs.Paths.{Path, file_name_of, under}
use Rattle.boot_entries.specs.Entries.{IsEntry, boot_menu, entry_count}
use Rattle.boot_entries.specs.declared.folders.Folders.{Folders}
use Rattle.boot_entries.proofs.EntryFiles.{entries_menu}
use Rattle.boot_entries.proofs.Places.{file_name_under}
use Rattle.boot_machine.specs.Prelude.{Files}
use Rattle.boot_machine.specs.proofs.Maps.{cases_same, get-remove_apart, get-remove_here, same_apart}
use Rattle.menu_order.specs.declared.item.MenuItem.{MenuItem}
use Rattle.command_plans.specs.Prelude.{path_in, folders_of, menu_at, removal, unlink_answer}
use Rattle.boot_texts.specs.EntryText.{is_payload_name}
use Rattle.type1_install.specs.Cleaning.{is_unnamed, unnamed_payloads}
use Rattle.type1_install.specs.Payloads.{folders_at, is_payload_path, item_names, named_values, path_of_value, names_path, payload_folder}
use Rattle.type1_install.proofs.PayloadsKept.{payload_slash}
use Rattle.type1_install.proofs.Cleaning.{all_kept, folders_are, menu_is}
use Rattle.boot_history.specs.Payloads.{AreNamedThere}

-- ---- a payload that no entry of its ESP names

pub NoneNames : Path → Files → Path → Type 0
NoneNames esp view path =
    (item : MenuItem) → IsEntry view (folders_at esp) item
    → (value : List ℕ) → Contains (option_to_list item.linux ++ item.initrds) value
    → (name : List ℕ) → is_payload_name name ≡ true → path ≡ under (payload_folder esp) name → path_of_value esp value ≡ Some path → ⊥

none_some : (a : List ℕ) → None ≡ Some a → ⊥
none_some a e = cc

-- an entry was one before a file went
entry_before : (view : Files) (folders : Folders) (path : Path) (item : MenuItem) → IsEntry (map_of.remove view path) folders item → IsEntry view folders item
entry_before view folders path item e = record {
  suffix = e.suffix;
  name = e.name;
  bytes = e.bytes;
  is_name = e.is_name;
  of_type = e.of_type;
  stands = e.stands;
  is_path = e.is_path;
  there = elim (cases_same item.path path) [
    | inl one ↦ absurd (none_some e.bytes (sym (ap (map_of.get (map_of.remove view path)) one ∙ get-remove_here view path) ∙ e.there))
    | inr two ↦ sym (get-remove_apart view path item.path two) ∙ e.there
  ];
  valid = e.valid;
}

module _ (esp : Path) (view : Files) (path : Path) where
  none_later : (other : Path) → NoneNames esp view other → NoneNames esp (map_of.remove view path) other
  unfolding NoneNames
  none_later other none item e = none item (entry_before view (folders_at esp) path item e)

  -- whether or not the file is there
  later_by : (found : Option (List ℕ)) (other : Path) → NoneNames esp view other → NoneNames esp (removal view path found).after other
  later_by None other none = none
  later_by (Some bytes) other none = none_later other none

  pub still_none : (other : Path) → NoneNames esp view other → NoneNames esp (unlink_answer view path).after other
  still_none = later_by (map_of.get view path)

module _ (counts : List ℕ → Bool) (esp : Path) (view : Files) (path : Path) where
  removed : AreNamedThere counts esp view → NoneNames esp view path → AreNamedThere counts esp (map_of.remove view path)
  unfolding NoneNames
  removed ok none item e value among name is counted names =
      let old = entry_before view (folders_at esp) path item e in
      let payload = ok item old value among name is counted names in
      record {
        bytes = payload.bytes;
        there = get-remove_apart view path (under (payload_folder esp) name)
            (same_apart (under (payload_folder esp) name) path
            (λ same. none item old value among name is (sym same) (names ∙ ap (λ (p : Path). Some p) same)))
            ∙ payload.there;
        is = payload.is;
      }

  unlinked_by : (found : Option (List ℕ)) → AreNamedThere counts esp view → NoneNames esp view path → AreNamedThere counts esp (removal view path found).after
  unlinked_by None ok none = ok
  unlinked_by (Some bytes) ok none = removed ok none

  pub unlinked : AreNamedThere counts esp view → NoneNames esp view path → AreNamedThere counts esp (unlink_answer view path).after
  unlinked = unlinked_by (map_of.get view path)

-- ---- what a cleanup drops

none_of : {X : Type 0} (test : X → Bool) (xs : List X) → list_any test xs ≡ false → All (λ x. test x ≡ false) xs
none_of test [] none = All-nil (λ x. test x ≡ false)
none_of test (x ∷ xs) none =
    let parts = or_parts (test x) (list_any test xs) none in
    All-cons (λ x. test x ≡ false) x xs parts.0 (none_of test xs parts.1)

clash : {b : Bool} → b ≡ true → b ≡ false → ⊥
clash is isnt = cc

among_named : (item : MenuItem) (value : List ℕ) → Contains (option_to_list item.linux ++ item.initrds) value → Contains (named_values item) value
among_named item value among = ⊎_elim
    (λ (linux : Contains (option_to_list item.linux) value). Contains-append_left (option_to_list item.linux) (option_to_list item.efi ++ item.initrds) value linux)
    (λ (initrds : Contains item.initrds value). Contains-append_right (option_to_list item.linux) (option_to_list item.efi ++ item.initrds) value
    (Contains-append_right (option_to_list item.efi) item.initrds value initrds))
    (Contains-append_cases (option_to_list item.linux) item.initrds value among)

-- none of a menu's entries names it
unnamed_none : (esp e : Path) (view : Files) (path : Path) → is_unnamed e (boot_menu view (folders_at e)) path ≡ true → NoneNames esp view path
unfolding NoneNames
unnamed_none esp e view path is item entry value among name fits at names =
    let parts = and_parts (is_payload_path e path) (not (list_any (item_names e path) (boot_menu view (folders_at e)))) is in
    let place = and_parts (is_payload_name (file_name_of path)) (bytes_eq (under (payload_folder e) (file_name_of path)) path) parts.0 in
    let stands : under (payload_folder e) (file_name_of path) ≡ path = (bytes_eq-Decides (under (payload_folder e) (file_name_of path)) path).0 place.1 in
    let last : file_name_of path ≡ name = ap file_name_of at ∙ file_name_under (payload_folder esp) name (payload_slash name fits) in
    let whole : under (payload_folder esp) name ≡ under (payload_folder e) name = sym at ∙ sym stands ∙ ap (under (payload_folder e)) last in
    let folders = append_cancel_right (payload_folder esp) (payload_folder e) (47 ∷ name) whole in
    let same : esp ≡ e = append_cancel_right esp e (47 ∷ payloads_below) folders in
    let own : IsEntry view (folders_at e) item = subst (λ x. IsEntry view (folders_at x) item) same entry in
    let listed = ((entries_menu view (folders_at e)).entries item).1 own in
    let none_item = All-contains (λ i. item_names e path i ≡ false) (boot_menu view (folders_at e)) item
    (none_of (item_names e path) (boot_menu view (folders_at e)) (not-true (list_any (item_names e path) (boot_menu view (folders_at e))) parts.1)) listed in
    let none_value = All-contains (λ v. names_path e path v ≡ false) (named_values item) value (none_of (names_path e path) (named_values item) none_item) (among_named item value among) in
    let read : path_of_value e value ≡ Some path = subst (λ x. path_of_value x value ≡ Some path) same names in
    let named : names_path e path value ≡ true = rw read ((bytes_eq-Decides path path).1 refl) in
    clash named none_value

pub all_unnamed : (esp e : Path) (view : Files) (word : List ℕ) (folders : Folders) (menu : List MenuItem) → path_in word ≡ Ok e → folders_of word ≡ Ok folders → menu_at view folders ≡ Ok menu
    → All (NoneNames esp view) (unnamed_payloads view e menu)
all_unnamed esp e view word folders menu at ok read =
    let are = folders_are word e folders at ok in
    let menu_are : boot_menu view (folders_at e) ≡ menu = ap (boot_menu view) (sym are) ∙ menu_is view folders (nat_lt 4096 (entry_count view folders)) menu read in
    subst (λ m. All (NoneNames esp view) (unnamed_payloads view e m)) menu_are
    (All-weaker (λ path. is_unnamed e (boot_menu view (folders_at e)) path ≡ true) (NoneNames esp view) (unnamed_none esp e view)
    (unnamed_payloads view e (boot_menu view (folders_at e))) (all_kept (is_unnamed e (boot_menu view (folders_at e))) (map_of.keys view)))
