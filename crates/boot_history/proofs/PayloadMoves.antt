-- A boot keeps the payloads of entries, and so does each change of a name in a folder that leaves the suffix.
use Rattle.std.proofs.Common.{◌≡◌, inl, inr, ℕ, zero, suc, ◌+◌, ◌<◌, ◌≤◌, ◌-◌, Bool, true, false, List, [], ◌∷◌, ◌++◌, length, take, Option, Some, None, Ok, min, refl, sym, ap, ◌∙◌, subst, arith, append_assoc, length-append, lit<, ◌==◌, codes, option_and_then, if◌then◌else◌, decimal}
use Rattle.std.specs.List.{list_any}
use Rattle.std.proofs.lemmas.Bool.{cases_Bool, or_from, or_parts}
use Rattle.std.proofs.lemmas.List.{append_cancel_right}
use Rattle.std.proofs.lemmas.List.Folds.{list_any-append}
use Rattle.boot_base.specs.Paths.{Path, file_name_of, is_file_name, is_slash, path_of, under}
use Rattle.menu_order.specs.Counter.{IsUncounted, after_boot, counted_of, done_text_of, suffix_text, written_name}
use Rattle.menu_order.specs.Renames.{base_of, booted_name_of, with_counter}
use Rattle.menu_order.specs.Splits.{has_suffix, split_of, stem_of}
use Rattle.menu_order.specs.declared.counted.Counted.{Counted}
use Rattle.menu_order.specs.declared.counted.Suffix.{Suffix}
use Rattle.menu_order.specs.declared.counted.Suffix.TheVariants.{Conf, Efi}
use Rattle.menu_order.proofs.CounterWritten.{reading_bounds}
use Rattle.menu_order.proofs.Splitting.{split_none, split_some, suffix_cut}
use Rattle.boot_entries.specs.Entries.{folder_of}
use Rattle.boot_entries.proofs.EntryFiles.{one_type}
use Rattle.boot_entries.proofs.Places.{file_name_under, name_parts}
use Rattle.boot_machine.specs.Prelude.{Files, has, move_in}
use Rattle.command_plans.specs.Prelude.{path_under}
use Rattle.entry_commands.proofs.Renamed.{AreSiblings, long_suffix, some_same, split_suffix, written_ends}
use Rattle.entry_commands.proofs.Siblings.{decimal_lacks}
use Rattle.boot_base.proofs.Beside.{kept_from_long}
use Rattle.command_plans.proofs.Steps.{clash}
use Rattle.type1_install.specs.Payloads.{folders_at}
use Rattle.type1_install.proofs.Installing.{IsNormal, child_normal, under_is, under_normal}
use Rattle.type1_install.proofs.PayloadsKept.{IsConfFile, conf_name, suffix_not_payload}
use Rattle.boot_history.specs.Payloads.{AreNamedThere}
use Rattle.boot_history.proofs.NamedKept.{move_kept}

conf_type : (name : List ℕ) (suffix : Suffix) → has_suffix suffix name ≡ true → has_suffix Conf name ≡ true → suffix ≡ Conf
conf_type name Conf of_type conf = refl
conf_type name Efi of_type conf = absurd (clash conf (one_type name of_type))

module _ (counts : List ℕ → Bool) (esp : Path) (old new : Path) (are : AreSiblings old new) where
  back : IsConfFile esp new → IsConfFile esp old
  back conf =
      let entries = (folders_at esp).entries in
      let named : conf.name ≡ are.two = sym (conf_name esp new conf) ∙ are.new_last in
      let ends : are.suffix ≡ Conf = conf_type are.two are.suffix are.two_ends (ap (has_suffix Conf) (sym named) ∙ conf.of_type) in
      let whole : are.front ++ are.two ≡ (entries ++ 47 ∷ []) ++ are.two =
      sym are.new_is ∙ conf.at ∙ ap (under entries) named ∙ sym (append_assoc entries (47 ∷ []) are.two) in
      let folder = append_cancel_right are.front (entries ++ 47 ∷ []) are.two whole in
      record {
        name = are.one;
        is_name = are.is_name;
        of_type = subst (λ s. has_suffix s are.one ≡ true) ends are.one_ends;
        at = are.old_is ∙ ap (λ (l : List ℕ). l ++ are.one) folder ∙ append_assoc entries (47 ∷ []) are.one;
        is_path = are.is_path;
      }

  -- a file that gets the other name
  pub moved : (view : Files) → AreNamedThere counts esp view → has view old ≡ true → AreNamedThere counts esp (move_in old new view)
  moved view ok there =
      move_kept counts esp view ok old new
      (suffix_not_payload esp old are.suffix (ap (has_suffix are.suffix) are.old_last ∙ are.one_ends))
      (suffix_not_payload esp new are.suffix (ap (has_suffix are.suffix) are.new_last ∙ are.two_ends))
      there back

no_slash_taken : (n : ℕ) (text : List ℕ) → list_any is_slash text ≡ false → list_any is_slash (take n text) ≡ false
no_slash_taken zero text none = refl
no_slash_taken (suc n) [] none = refl
no_slash_taken (suc n) (b ∷ text) none =
    let parts = or_parts (is_slash b) (list_any is_slash text) none in
    or_from (is_slash b) (list_any is_slash (take n text)) parts.0 (no_slash_taken n text parts.1)

no_slash_more : (a b : List ℕ) → list_any is_slash a ≡ false → list_any is_slash b ≡ false → list_any is_slash (a ++ b) ≡ false
no_slash_more a b one two = list_any-append is_slash a b ∙ or_from (list_any is_slash a) (list_any is_slash b) one two

no_slash_done : (done : ℕ) → done ≤ 999999999 → list_any is_slash (done_text_of done) ≡ false
no_slash_done done few = by (done == 0)
  where
    by : (none : Bool) → list_any is_slash (if none then [] else (45 ∷ decimal done)) ≡ false
    by true = refl
    by false = or_from (is_slash 45) (list_any is_slash (decimal done)) refl (decimal_lacks 47 done (lit< tt) few)

no_slash_end : (suffix : Suffix) → list_any is_slash (suffix_text suffix) ≡ false
no_slash_end Conf = refl
no_slash_end Efi = refl

no_slash_written : (base : List ℕ) (left done : ℕ) (suffix : Suffix) → list_any is_slash base ≡ false → left ≤ 999999999 → done ≤ 999999999
    → list_any is_slash (written_name base left done suffix) ≡ false
no_slash_written base left done suffix none few_left few_done =
    let end = no_slash_more (done_text_of done) (suffix_text suffix) (no_slash_done done few_done) (no_slash_end suffix) in
    let numbers = no_slash_more (decimal left) (done_text_of done ++ suffix_text suffix) (decimal_lacks 47 left (lit< tt) few_left) end in
    no_slash_more base (43 ∷ (decimal left ++ (done_text_of done ++ suffix_text suffix))) none
    (or_from (is_slash 43) (list_any is_slash (decimal left ++ (done_text_of done ++ suffix_text suffix))) refl numbers)

-- what a boot makes of a name
booted_is : (name other : List ℕ) (counted : Counted) → split_of name ≡ Some counted → booted_name_of name ≡ Some other
    → with_counter name (after_boot counted) ≡ other
booted_is name other counted split is =
    by (counted.left == 0)
    (sym (ap (option_and_then (λ c. if c.left == 0 then None else Some (with_counter name (after_boot c)))) split) ∙ is)
  where
    by : (none : Bool) → (if none then None else Some (with_counter name (after_boot counted))) ≡ Some other
        → with_counter name (after_boot counted) ≡ other
    by true is = cc
    by false is = some_same (with_counter name (after_boot counted)) other is

some_split : (name other : List ℕ) → booted_name_of name ≡ Some other → (counted : Counted) × (split_of name ≡ Some counted)
some_split name other is = by (split_of name) refl is
  where
    by : (split : Option Counted) → split_of name ≡ split
        → option_and_then (λ c. if c.left == 0 then None else Some (with_counter name (after_boot c))) split ≡ Some other
        → (counted : Counted) × (split_of name ≡ Some counted)
    by None at is = cc
    by (Some counted) at is = (counted, at)

none_split : (name : List ℕ) (counted : Counted) → split_of name ≡ None → split_of name ≡ Some counted → ⊥
none_split name counted none some = cc

-- the name after a boot has no slash
booted_one : (name other : List ℕ) → list_any is_slash name ≡ false → booted_name_of name ≡ Some other → list_any is_slash other ≡ false
booted_one name other none is = elim (cases_Bool (list_any is_slash other)) [
  | inl slash ↦
      let some = some_split name other is in
      let unread : IsUncounted name = λ base left done suffix read.
      let bounds = reading_bounds name base left done suffix read in
      let split = split_some name base left done suffix read in
      let whole = booted_is name other (counted_of base left done suffix) split is in
      let one = no_slash_written (take (length base) name) (left - 1) (min (done + 1) 999999999) suffix (no_slash_taken (length base) name none)
      (omega (arith, bounds.0)) (omega arith) in
      clash slash (ap (list_any is_slash) (sym whole) ∙ one) in
      absurd (none_split name some.0 (split_none name unread) some.1)
  | inr fine ↦ fine
]

booted_ends : (name other : List ℕ) → booted_name_of name ≡ Some other
    → (suffix : Suffix) × (has_suffix suffix name ≡ true) × (has_suffix suffix other ≡ true)
booted_ends name other is =
    let some = some_split name other is in
    let counted = some.0 in
    let whole = booted_is name other counted some.1 is in
    let next = after_boot counted in (
      counted.suffix,
      split_suffix name counted some.1,
      ap (has_suffix counted.suffix) (sym whole) ∙ written_ends (base_of name next) next.left next.done next.suffix,
    )

-- a folder of entries reads as itself
pub normal_folder : (esp : Path) → IsNormal esp → (suffix : Suffix) → IsNormal (folder_of (folders_at esp) suffix)
normal_folder esp normal Conf =
    subst IsNormal (append_assoc esp (47 ∷ codes "loader") (47 ∷ codes "entries"))
    (under_normal (under esp (codes "loader")) (codes "entries") (under_normal esp (codes "loader") normal refl refl) refl refl)
normal_folder esp normal Efi =
    subst IsNormal (append_assoc esp (47 ∷ codes "EFI") (47 ∷ codes "Linux"))
    (under_normal (under esp (codes "EFI")) (codes "Linux") (under_normal esp (codes "EFI") normal refl refl) refl refl)

-- an entry that is booted keeps its folder and its suffix
pub booted_beside : (folder : Path) (name other old new : List ℕ) → IsNormal folder → is_file_name name ≡ true → old ≡ under folder name
    → path_of old ≡ Some old → booted_name_of name ≡ Some other → path_under folder other ≡ Ok new → AreSiblings old new
booted_beside folder name other old new normal is_name stands reads booted found =
    let ends = booted_ends name other booted in
    let one = booted_one name other (name_parts name is_name).1 booted in
    let stem = stem_of ends.0 other in
    let long : 1 < length other = omega (arith, ap length (suffix_cut ends.0 other ends.2), length-append stem (suffix_text ends.0), long_suffix ends.0) in
    let at : new ≡ under folder other = sym (under_is folder other new found) ∙ child_normal folder other normal (kept_from_long other long) one in
    record {
      front = folder ++ 47 ∷ [];
      one = name;
      two = other;
      old_is = stands ∙ sym (append_assoc folder (47 ∷ []) name);
      new_is = at ∙ sym (append_assoc folder (47 ∷ []) other);
      old_last = ap file_name_of stands ∙ file_name_under folder name (name_parts name is_name).1;
      new_last = ap file_name_of at ∙ file_name_under folder other one;
      suffix = ends.0;
      one_ends = ends.1;
      two_ends = ends.2;
      is_name = is_name;
      is_path = reads;
    }
