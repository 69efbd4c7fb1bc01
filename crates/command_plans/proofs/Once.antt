-- Paths in order, each once.
use Rattle.std.proofs.Common.{◌≡◌, Bool, true, List, [], refl, sym, subst, Contains, bytes_eq}
use Rattle.std.proofs.lemmas.Cmp.{nat_list_cmp_total, eq_by_cmp_equiv}
use Rattle.std.proofs.lemmas.List.Filters.{dedup_is}
use Rattle.std.proofs.lemmas.List.Kept.{Contains-dedup, Contains-from_dedup, IsStrictlySortedBy-dedup}
use Rattle.std.proofs.lemmas.List.Sorted.{Contains-permutation, IsPermutation-sym}
use Rattle.std.proofs.lemmas.Map.Keys.{IsDistinct-from_sorted}
use Rattle.std.proofs.lemmas.Map.Text.{is_eq-slice_cmp}
use Rattle.std.specs.List.{IsDistinct, dedup}
use Rattle.std.specs.List.Retain.{IsFiltered, DiffersFromLast}
use Rattle.std.specs.List.Sorted.{IsPermutation, IsSorted, IsStrictlySortedBy}
use Rattle.std.specs.Ordering.{nat_cmp, eq_by_cmp}
use Rattle.std.specs.Cmp.Lexicographic.{slice_cmp}
use Rattle.boot_base.specs.Paths.{Path}
use Rattle.boot_machine.specs.proofs.Maps.{is_same_path-true}

abbrev same_path : Path → Path → Bool
same_path = eq_by_cmp (slice_cmp nat_cmp)

same_path-is : same_path ≡ bytes_eq
same_path-is i x y = is_eq-slice_cmp x y i

exact : (x y : Path) → same_path x y ≡ true → x ≡ y
exact x y is = is_same_path-true x y is

-- sorted, and then each once
module _ (given sorted kept : List Path) (moved : IsPermutation given sorted) (order : IsSorted (slice_cmp nat_cmp) sorted) (cut : IsFiltered (DiffersFromLast same_path) [] sorted kept) where
  kept-is : kept ≡ dedup same_path sorted
  kept-is = dedup_is same_path sorted kept cut

  pub once_distinct : IsDistinct bytes_eq kept
  once_distinct =
      subst (IsDistinct bytes_eq) (sym kept-is)
      (subst (λ same. IsDistinct same (dedup same_path sorted)) same_path-is
      (IsDistinct-from_sorted (slice_cmp nat_cmp) (dedup same_path sorted) (IsStrictlySortedBy-dedup nat_list_cmp_total (λ x y. refl) sorted order)))

  pub once_among : (x : Path) → Contains kept x → Contains given x
  once_among x is =
      Contains-permutation sorted given x (IsPermutation-sym given sorted moved)
      (Contains-from_dedup same_path sorted x (subst (λ (l : List Path). Contains l x) kept-is is))

  pub once_all : (x : Path) → Contains given x → Contains kept x
  once_all x is =
      subst (λ (l : List Path). Contains l x) (sym kept-is)
      (Contains-dedup (eq_by_cmp_equiv nat_list_cmp_total) exact sorted x (Contains-permutation given sorted x moved is))

  pub once_sorted : IsStrictlySortedBy (slice_cmp nat_cmp) kept
  once_sorted =
      subst (IsStrictlySortedBy (slice_cmp nat_cmp)) (sym kept-is)
      (IsStrictlySortedBy-dedup nat_list_cmp_total (λ x y. refl) sorted order)
