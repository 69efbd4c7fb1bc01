-- The names of entry files, and what is found of each file.
use Rattle.std.proofs.Common.{◌≡◌, ℕ, true, List, [], filter, length, Option, Some, None, refl, sym, ap, ◌∙◌, inl, inr, bytes_eq, nat_le, option_and_then, unwrap_or}
use Rattle.std.specs.FinMap as map
use Rattle.std.proofs.lemmas.Bool.{cases_Bool, cond-true, cond-false}
use Rattle.boot_base.specs.Paths.{Path}
use Rattle.menu_order.specs.Splits.{has_suffix}
use Rattle.menu_order.specs.declared.counted.Suffix.{Suffix}
use Rattle.menu_order.specs.declared.counted.Suffix.TheVariants.{Conf}
use Rattle.boot_machine.specs.Prelude.{Files, IsNamesOf, contents}
use Rattle.menu_order.specs.declared.item.MenuItem.{MenuItem}
use Rattle.boot_entries.specs.Entries.{entry_at, entry_of}
use Rattle.boot_entries.specs.Records.{type1_entry}
use Rattle.boot_entries.specs.Scanning.{AreEntryNames, size_within}
use Rattle.boot_entries.proofs.Members.{distinct_passing, passing, passing_from}

-- the names with a suffix among those of a folder
pub suffix_names : (files : Files) (folder : Path) (suffix : Suffix) (names : List (List ℕ)) → IsNamesOf files folder names → AreEntryNames files folder suffix (filter (has_suffix suffix) names)
suffix_names files folder suffix names are = record {
  distinct = distinct_passing bytes_eq (has_suffix suffix) names are.distinct;
  each = λ name. (
    (λ c. let p = passing_from (has_suffix suffix) names name c in let n = (are.each name).0 p.0 in (n.0, p.1, n.1)),
    λ is. passing (has_suffix suffix) names name ((are.each name).1 (is.0, is.2)) is.1,
  );
}

-- ---- a file of at most so many bytes

none_some : (n : ℕ) → Some n ≡ None → ⊥
none_some n e = cc

some_same : (m n : ℕ) → Some m ≡ Some n → m ≡ n
some_same m n e = cc

-- the file is there, of that size
pub record IsSized (limit : ℕ) (files : Files) (path : Path) (size : ℕ) : Type 0 where
  pub there : map.get files path ≡ Some (contents files path)
  pub size_is : size ≡ length (contents files path)
  pub fits : nat_le (length (contents files path)) limit ≡ true

sized_from : (limit : ℕ) (files : Files) (path : Path) (size : ℕ) (file : Option (List ℕ)) → map.get files path ≡ file → size_within limit file ≡ Some size → IsSized limit files path size
sized_from limit files path size None is within = cc
sized_from limit files path size (Some bytes) is within = elim (cases_Bool (nat_le (length bytes) limit)) [
  | inl fits ↦
      let bytes_are : contents files path ≡ bytes = ap (λ o. unwrap_or o []) is in
      let size_is : length bytes ≡ size = some_same (length bytes) size (sym (cond-true (nat_le (length bytes) limit) (Some (length bytes)) None fits) ∙ within) in
      record {
        there = is ∙ ap (λ (b : List ℕ). Some b) (sym bytes_are);
        size_is = sym size_is ∙ ap length (sym bytes_are);
        fits = ap (λ (b : List ℕ). nat_le (length b) limit) bytes_are ∙ fits;
      }
  | inr long ↦ absurd (none_some size (sym within ∙ cond-false (nat_le (length bytes) limit) (Some (length bytes)) None long))
]

pub sized : (limit : ℕ) (files : Files) (path : Path) (size : ℕ) → Some size ≡ size_within limit (map.get files path) → IsSized limit files path size
sized limit files path size within = sized_from limit files path size (map.get files path) refl (sym within)

-- ---- what it is read as

pub text_found : (files : Files) (path : Path) (size : ℕ) (read : List ℕ) (item : Option MenuItem) → IsSized 65536 files path size → (size ≡ length (contents files path) → read ≡ contents files path)
    → item ≡ type1_entry path read → item ≡ entry_at Conf files path
text_found files path size read item is given reads =
    reads ∙ ap (type1_entry path) (given is.size_is) ∙ sym (ap (option_and_then (entry_of Conf path)) is.there)
