-- The names of one entry, and the moves between them.
use Rattle.std.proofs.Common.{◌≡◌, inl, inr, ℕ, ◌+◌, ◌-◌, ◌<◌, ◌≤◌, Bool, true, false, List, [], ◌∷◌, ◌++◌, length, take, Option, Some, None, refl, sym, ap, ◌∙◌, subst, arith, append_assoc, length-append, bytes_eq, min, option_and_then, option_map, ◌&&◌, if◌then◌else◌, ◌==◌}
use Rattle.std.specs.List.{list_any}
use Rattle.std.proofs.Math.Seq.{take-append_seam}
use Rattle.std.proofs.lemmas.Bool.{cases_Bool}
use Rattle.std.proofs.lemmas.Slice.Eq.{bytes_eq-Decides}
use Rattle.boot_base.specs.Paths.{Path, beside, file_name_of, is_slash, under}
use Rattle.boot_base.proofs.Beside.{beside_under, beside_whole, file_name_under, file_name_whole, last_of}
use Rattle.menu_order.specs.Counter.{after_boot, counted_of, suffix_text, written_name, IsCounted, IsUncounted}
use Rattle.menu_order.specs.Renames.{bad_name_of, base_of, booted_name_of, good_name_of, with_counter}
use Rattle.menu_order.specs.Splits.{has_suffix, stem_of}
use Rattle.menu_order.specs.declared.counted.Counted.{Counted}
use Rattle.menu_order.specs.declared.counted.Suffix.{Suffix}
use Rattle.menu_order.specs.declared.counted.Suffix.TheVariants.{Conf, Efi}
use Rattle.menu_order.proofs.CounterWritten.{reading_bounds, written_reads}
use Rattle.menu_order.proofs.Splitting.{one_suffix, split_none, split_some, suffix_there}
use Rattle.fat_rules.specs.Entries.{EntryParts, IsOfEntry, NamesAreOfOneEntry, OwnMovesAreBelieved, entry_from, first_there, folder_part, is_one_entry, same_suffix, uncounted_as}

some_is : {A : Type 0} (a b : A) → Some a ≡ Some b → a ≡ b
some_is a b is = cc

-- ---- names with a counter

-- the base in front of a counter
base_is : (name base : List ℕ) (left done : ℕ) (suffix : Suffix) → IsCounted name base left done suffix
    → take (length base) name ≡ base
base_is name base left done suffix r =
    ap (take (length base)) r.parts ∙ take-append_seam base (43 ∷ (r.counter ++ suffix_text suffix))

counted_entry : (name base : List ℕ) (left done : ℕ) (suffix : Suffix) → IsCounted name base left done suffix
    → IsOfEntry (base, suffix) name
counted_entry name base left done suffix r =
    ap (entry_from name) (split_some name base left done suffix r)
    ∙ ap (λ (b : List ℕ). Some (b, suffix)) (base_is name base left done suffix r)

written_entry : (base : List ℕ) (left done : ℕ) (suffix : Suffix) → 0 < length base → left ≤ 999999999 → done ≤ 999999999
    → IsOfEntry (base, suffix) (written_name base left done suffix)
written_entry base left done suffix some l d =
    counted_entry (written_name base left done suffix) base left done suffix (written_reads base left done suffix some l d)

booted_if : Bool → List ℕ → Option (List ℕ)
booted_if none name = if none then None else Some name

booted_is : (none : Bool) (name booted : List ℕ) → booted_if none name ≡ Some booted → name ≡ booted
unfolding booted_if
booted_is true name booted is = cc
booted_is false name booted is = some_is name booted is

next_bounds : (left done : ℕ) → left ≤ 999999999 → (left - 1 ≤ 999999999) × (min (done + 1) 999999999 ≤ 999999999)
next_bounds left done l = (omega (arith, l), omega arith)

booted_entry_is : (name base : List ℕ) (left done : ℕ) (suffix : Suffix) → IsCounted name base left done suffix
    → (booted : List ℕ) → booted_name_of name ≡ Some booted → IsOfEntry (base, suffix) booted
unfolding booted_if
booted_entry_is name base left done suffix r booted is =
    let read = split_some name base left done suffix r in
    let counted = counted_of base left done suffix in
    let bounds = reading_bounds name base left done suffix r in
    let next = next_bounds left done bounds.0 in
    let same : with_counter name (after_boot counted) ≡ booted = booted_is (left == 0) (with_counter name (after_boot counted)) booted
    (sym (ap (λ (split : Option Counted). option_and_then (λ (c : Counted). if c.left == 0 then None else Some (with_counter name (after_boot c))) split) read) ∙ is) in
    let written : written_name base (left - 1) (min (done + 1) 999999999) suffix ≡ booted =
    ap (λ (b : List ℕ). written_name b (left - 1) (min (done + 1) 999999999) suffix) (sym (base_is name base left done suffix r)) ∙ same in
    subst (IsOfEntry (base, suffix)) written (written_entry base (left - 1) (min (done + 1) 999999999) suffix r.some_base next.0 next.1)

bad_entry_is : (name base : List ℕ) (left done : ℕ) (suffix : Suffix) → IsCounted name base left done suffix
    → (bad : List ℕ) → bad_name_of name ≡ Some bad → IsOfEntry (base, suffix) bad
bad_entry_is name base left done suffix r bad is =
    let read = split_some name base left done suffix r in
    let bounds = reading_bounds name base left done suffix r in
    let same : written_name (take (length base) name) 0 done suffix ≡ bad = some_is _ _
    (sym (ap (option_map (λ (c : Counted). with_counter name (record c { left = 0 }))) read) ∙ is) in
    let written : written_name base 0 done suffix ≡ bad =
    ap (λ (b : List ℕ). written_name b 0 done suffix) (sym (base_is name base left done suffix r)) ∙ same in
    subst (IsOfEntry (base, suffix)) written (written_entry base 0 done suffix r.some_base (omega arith) bounds.1)

-- ---- names without one

pub cut_behind : (stem end : List ℕ) → take (length (stem ++ end) - length end) (stem ++ end) ≡ stem
cut_behind stem end =
    let long = length-append stem end in
    let count : length (stem ++ end) - length end ≡ length stem = omega (arith, long) in
    ap (λ (n : ℕ). take n (stem ++ end)) count ∙ take-append_seam stem end

stem_there : (name stem : List ℕ) (suffix : Suffix) → name ≡ stem ++ suffix_text suffix → stem_of suffix name ≡ stem
stem_there name stem suffix is = ap (stem_of suffix) is ∙ cut_behind stem (suffix_text suffix)

uncounted_is : (name stem : List ℕ) (suffix : Suffix) → name ≡ stem ++ suffix_text suffix → uncounted_as suffix name ≡ Some (stem, suffix)
uncounted_is name stem suffix is =
    rw (suffix_there suffix name stem is) (ap (λ (s : List ℕ). Some (s, suffix)) (stem_there name stem suffix is))

unlike : Conf ≡ Efi → ⊥
unlike e = cc

not_efi : (name stem : List ℕ) → name ≡ stem ++ suffix_text Conf → uncounted_as Efi name ≡ None
not_efi name stem is = elim (cases_Bool (has_suffix Efi name)) [
  | inl efi ↦ absurd (unlike (one_suffix name stem Conf Efi is efi))
  | inr other ↦ rw other refl
]

plain_entry : (name stem : List ℕ) (suffix : Suffix) → name ≡ stem ++ suffix_text suffix
    → first_there (uncounted_as Efi name) (uncounted_as Conf name) ≡ Some (stem, suffix)
plain_entry name stem Efi is = ap (λ (p : Option EntryParts). first_there p (uncounted_as Conf name)) (uncounted_is name stem Efi is)
plain_entry name stem Conf is =
    ap (λ (p : Option EntryParts). first_there p (uncounted_as Conf name)) (not_efi name stem is) ∙ uncounted_is name stem Conf is

good_entry_is : (name base : List ℕ) (left done : ℕ) (suffix : Suffix) → IsCounted name base left done suffix
    → (good : List ℕ) → good_name_of name ≡ Some good → IsUncounted good → IsOfEntry (base, suffix) good
good_entry_is name base left done suffix r good is none =
    let read = split_some name base left done suffix r in
    let same : take (length base) name ++ suffix_text suffix ≡ good = some_is _ _
    (sym (ap (option_map (λ (c : Counted). base_of name c ++ suffix_text c.suffix)) read) ∙ is) in
    let whole : good ≡ base ++ suffix_text suffix =
    sym same ∙ ap (λ (b : List ℕ). b ++ suffix_text suffix) (base_is name base left done suffix r) in
    ap (entry_from good) (split_none good none) ∙ plain_entry good base suffix whole

pub names_are_of_one_entry : NamesAreOfOneEntry
names_are_of_one_entry name base left done suffix r = (
  counted_entry name base left done suffix r,
  booted_entry_is name base left done suffix r,
  bad_entry_is name base left done suffix r,
  good_entry_is name base left done suffix r,
)

-- ---- moves

suffix_itself : (suffix : Suffix) → same_suffix suffix suffix ≡ true
suffix_itself Conf = refl
suffix_itself Efi = refl

pub bytes_themselves : (bytes : List ℕ) → bytes_eq bytes bytes ≡ true
bytes_themselves bytes = (bytes_eq-Decides bytes bytes).1 refl

one_entry : (parts : EntryParts) (name other : List ℕ) → IsOfEntry parts name → IsOfEntry parts other → is_one_entry name other ≡ true
one_entry parts name other is also =
    rw (is, also) (rw (bytes_themselves parts.0, suffix_itself parts.1) refl)

part_under : (folder name : List ℕ) → list_any is_slash name ≡ false → folder_part (under folder name) ≡ folder ++ 47 ∷ []
part_under folder name none =
    let path = under folder name in
    let cut : path ≡ (folder ++ 47 ∷ []) ++ name = sym (append_assoc folder (47 ∷ []) name) in
    let long = ap length cut ∙ length-append (folder ++ 47 ∷ []) name in
    let last = ap length (file_name_under folder name none) in
    let count : length path - length (file_name_of path) ≡ length (folder ++ 47 ∷ []) = omega (arith, long, last) in
    ap (λ (n : ℕ). take n path) count ∙ (ap (take (length (folder ++ 47 ∷ []))) cut ∙ take-append_seam (folder ++ 47 ∷ []) name)

part_whole : (text : List ℕ) → list_any is_slash text ≡ false → folder_part text ≡ []
part_whole text none =
    let last = ap length (file_name_whole text none) in
    let count : length text - length (file_name_of text) ≡ 0 = omega (arith, last) in
    ap (λ (n : ℕ). take n text) count

-- a file beside another one is in its folder, under its own name
record IsBeside (path : Path) (name : List ℕ) : Type 0 where
  folder : folder_part path ≡ folder_part (beside path name)
  last : file_name_of (beside path name) ≡ name

beside_is : (path : Path) (name : List ℕ) → list_any is_slash name ≡ false → IsBeside path name
beside_is path name none = elim (last_of path) [
  | inl whole ↦
      let at = beside_whole path name whole in
      record {
        folder = part_whole path whole ∙ sym (ap folder_part at ∙ part_whole name none);
        last = ap file_name_of at ∙ file_name_whole name none;
      }
  | inr cut ↦
      let at = ap (λ (p : List ℕ). beside p name) cut.whole ∙ beside_under cut.front cut.last name cut.one in
      record {
        folder = ap folder_part cut.whole ∙ (part_under cut.front cut.last cut.one ∙ sym (ap folder_part at ∙ part_under cut.front name none));
        last = ap file_name_of at ∙ file_name_under cut.front name none;
      }
]

both : (a b : Bool) → a ≡ true → b ≡ true → (a && b) ≡ true
both a b first second = rw (first, second) refl

pub own_moves_are_believed : OwnMovesAreBelieved
own_moves_are_believed parts path name is also none =
    let at = beside_is path name none in
    both (bytes_eq (folder_part path) (folder_part (beside path name))) (is_one_entry (file_name_of path) (file_name_of (beside path name)))
    (subst (λ (f : List ℕ). bytes_eq (folder_part path) f ≡ true) at.folder (bytes_themselves (folder_part path)))
    (one_entry parts (file_name_of path) (file_name_of (beside path name)) is (subst (IsOfEntry parts) (sym at.last) also))
