-- Names sorted by their bytes, and then each once.
use Rattle.std.proofs.Common.{◌≡◌, ℕ, Bool, List, Ordering, is_lt, sym, ap, subst, All, Contains, IsPermutation, bytes_eq, IsSorted, IsSortedBy}
use Rattle.std.specs.Cmp.{IsStrictWeakOrder}
use Rattle.std.specs.Cmp.Lexicographic.{nat_list_cmp_total}
use Rattle.std.specs.Fn.{Called, ComparesAs}
use Rattle.std.specs.List.{IsDistinct, dedup}
use Rattle.std.specs.Ordering.{eq_by_cmp}
use Rattle.std.proofs.lemmas.Cmp.{nat_list_eq_equiv}
use Rattle.std.proofs.lemmas.List.Elements.{All-contains, All-contains_itself, All-weaker}
use Rattle.std.proofs.lemmas.List.Kept.{Contains-dedup, Contains-from_dedup, IsStrictlySortedBy-dedup}
use Rattle.std.proofs.lemmas.List.Sorted.{Contains-permutation, IsPermutation-sym, answers_always, ranks_by}
use Rattle.std.proofs.lemmas.Map.Keys.{IsDistinct-from_sorted}
use denote.Param.Members.{Mut}
use denote.Ref.{Bor}
use Rattle.boot_base.specs.Paths.{Path}
use Rattle.boot_machine.specs.Prelude.{Files, path_cmp}
use Rattle.boot_machine.proofs.Listing.{same_bytes, bytes-true}
use Rattle.menu_order.specs.declared.counted.Suffix.{Suffix}
use Rattle.boot_entries.specs.Scanning.{AreEntryNames}

-- what a sort by a closure that compares names gives
pub sorted_names : {F : Type 0} {g : Mut F (Bor (List ℕ) × (Bor (List ℕ) × Unit {0})) Ordering} {f : F} (names : List (List ℕ))
    → ((lt : List ℕ → List ℕ → Bool) → IsStrictWeakOrder lt → ComparesAs g lt f → IsSortedBy lt names)
    → ((f : F) (a : Bor (List ℕ) × (Bor (List ℕ) × Unit {0})) (r : Ordering) (f' : F) → Called g f a r f' → r ≡ path_cmp a.0.now a.1.0.now)
    → IsSorted path_cmp names
sorted_names {g = g} {f = f} names up says =
    let lt : List ℕ → List ℕ → Bool = λ x y. is_lt (path_cmp x y) in
    up lt (ranks_by nat_list_cmp_total (λ (name : List ℕ). name)) (answers_always g (λ a r. is_lt r ≡ lt a.0.now a.1.0.now) f (λ f a r f' k. ap is_lt (says f a r f' k)))

abbrev same_is : eq_by_cmp path_cmp ≡ bytes_eq
same_is i x y = same_bytes x y i

module _ (given sorted once : List (List ℕ)) (moved : IsPermutation given sorted) (order : IsSorted path_cmp sorted) (cut : once ≡ dedup bytes_eq sorted) where
  pub names_distinct : IsDistinct bytes_eq once
  names_distinct =
      subst (IsDistinct bytes_eq) (sym cut)
      (subst (λ same. IsDistinct same (dedup bytes_eq sorted)) same_is
      (IsDistinct-from_sorted path_cmp (dedup bytes_eq sorted) (IsStrictlySortedBy-dedup nat_list_cmp_total (λ x y. sym (same_bytes x y)) sorted order)))

  pub names_among : (name : List ℕ) → Contains once name → Contains given name
  names_among name is =
      Contains-permutation sorted given name (IsPermutation-sym given sorted moved)
      (Contains-from_dedup bytes_eq sorted name (subst (λ (l : List (List ℕ)). Contains l name) cut is))

  pub names_all : (name : List ℕ) → Contains given name → Contains once name
  names_all name is =
      subst (λ (l : List (List ℕ)). Contains l name) (sym cut)
      (Contains-dedup nat_list_eq_equiv bytes-true sorted name (Contains-permutation given sorted name moved is))

-- names that differ, each of which is among others
module _ (names once : List (List ℕ)) (distinct : IsDistinct bytes_eq once) (among : (name : List ℕ) → Contains once name → Contains names name) where
  pub still_names : (files : Files) (folder : Path) (suffix : Suffix) → ((name : List ℕ) → Contains names name → Contains once name)
      → AreEntryNames files folder suffix names → AreEntryNames files folder suffix once
  still_names files folder suffix all are = record {
    distinct = distinct;
    each = λ name. (λ is. (are.each name).0 (among name is), λ is. all name ((are.each name).1 is));
  }

  pub still_all : (P : List ℕ → Type 0) → All P names → All P once
  still_all P all = All-weaker (Contains once) P (λ name is. All-contains P names name all (among name is)) once (All-contains_itself once)
