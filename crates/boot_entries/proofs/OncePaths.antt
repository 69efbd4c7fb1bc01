-- Entries sorted by their paths, and then one of each path.
use Rattle.std.proofs.Common.{◌≡◌, Bool, false, List, map, sym, ap, ◌∙◌, subst, is_lt, Ordering, [], ◌∷◌, Contains, IsPermutation, bytes_eq, IsSorted, IsSortedBy}
use Rattle.std.specs.Cmp.{IsStrictWeakOrder, IsTotalOrder, IsEquivalence}
use Rattle.std.specs.Cmp.Lexicographic.{nat_list_cmp_total}
use Rattle.std.specs.Fn.{Called, ComparesAs}
use Rattle.std.specs.List.{IsDistinct, AllByRecursion, dedup}
use Rattle.std.specs.Ordering.{eq_by_cmp}
use Rattle.std.proofs.lemmas.Cmp.{nat_list_eq_equiv, on_total}
use Rattle.std.proofs.lemmas.List.Kept.{Any-dedup, Contains-from_dedup, IsStrictlySortedBy-dedup}
use Rattle.std.proofs.lemmas.List.Sorted.{Contains-permutation, IsPermutation-map, IsPermutation-sym, answers_always, ranks_by}
use Rattle.std.proofs.lemmas.Map.Keys.{IsDistinct-IsPermutation, IsDistinct-from_sorted}
use denote.Param.Members.{Mut}
use denote.Ref.{Bor}
use Rattle.boot_machine.proofs.Listing.{same_bytes, bytes-true}
use Rattle.menu_order.specs.Menu.{HaveOwnPaths}
use Rattle.menu_order.specs.declared.item.MenuItem.{MenuItem}
use Rattle.boot_entries.specs.Scanning.{path_order}

path_order_total : IsTotalOrder path_order
path_order_total = on_total (λ (item : MenuItem). item.path) nat_list_cmp_total

-- what a sort by a closure that compares paths gives
pub sorted_by_paths : {F : Type 0} {g : Mut F (Bor MenuItem × (Bor MenuItem × Unit {0})) Ordering} {f : F} (items : List MenuItem)
    → ((lt : MenuItem → MenuItem → Bool) → IsStrictWeakOrder lt → ComparesAs g lt f → IsSortedBy lt items)
    → ((f : F) (a : Bor MenuItem × (Bor MenuItem × Unit {0})) (r : Ordering) (f' : F) → Called g f a r f' → r ≡ path_order a.0.now a.1.0.now)
    → IsSorted path_order items
sorted_by_paths {g = g} {f = f} items up says =
    let lt : MenuItem → MenuItem → Bool = λ x y. is_lt (path_order x y) in
    up lt (ranks_by path_order_total (λ (item : MenuItem). item)) (answers_always g (λ a r. is_lt r ≡ lt a.0.now a.1.0.now) f (λ f a r f' k. ap is_lt (says f a r f' k)))

-- two entries have one path
abbrev pub same_path : MenuItem → MenuItem → Bool
same_path a b = bytes_eq a.path b.path

tied : (a b : MenuItem) → same_path a b ≡ eq_by_cmp path_order a b
tied a b = sym (same_bytes a.path b.path)

same_path_equiv : IsEquivalence same_path
same_path_equiv = record {
  refl = λ a. nat_list_eq_equiv.refl a.path;
  symm = λ a b. nat_list_eq_equiv.symm a.path b.path;
  congr = λ a b c is. nat_list_eq_equiv.congr a.path b.path c.path is;
}

paths_apart : (item : MenuItem) (items : List MenuItem) → AllByRecursion (λ other. eq_by_cmp path_order item other ≡ false) items
    → AllByRecursion (λ path. bytes_eq item.path path ≡ false) (map (λ (i : MenuItem). i.path) items)
paths_apart item [] all = tt
paths_apart item (other ∷ items) all = (tied item other ∙ all.0, paths_apart item items all.1)

distinct_paths_of : (items : List MenuItem) → IsDistinct (eq_by_cmp path_order) items → HaveOwnPaths items
unfolding IsDistinct
distinct_paths_of [] distinct = distinct
distinct_paths_of (item ∷ items) distinct = (paths_apart item items distinct.0, distinct_paths_of items distinct.1)

module _ (items sorted once : List MenuItem) (moved : IsPermutation items sorted) (order : IsSorted path_order sorted) (cut : once ≡ dedup same_path sorted) where
  pub once_own : HaveOwnPaths once
  once_own =
      subst HaveOwnPaths (sym cut)
      (distinct_paths_of (dedup same_path sorted)
      (IsDistinct-from_sorted path_order (dedup same_path sorted) (IsStrictlySortedBy-dedup path_order_total tied sorted order)))

  pub once_among : (item : MenuItem) → Contains once item → Contains items item
  once_among item is =
      Contains-permutation sorted items item (IsPermutation-sym items sorted moved)
      (Contains-from_dedup same_path sorted item (subst (λ (l : List MenuItem). Contains l item) cut is))

  pub once_all : (item : MenuItem) → Contains items item → (other : MenuItem) × Contains once other × (other.path ≡ item.path)
  once_all item is =
      let kept = Any-dedup same_path_equiv sorted item (Contains-permutation items sorted item moved is) in
      (kept.1, subst (λ (l : List MenuItem). Contains l kept.1) (sym cut) (kept.0, kept.2, kept.3), sym (bytes-true item.path kept.1.path kept.4))

-- a list in another order has its paths still
pub own_moved : (items menu : List MenuItem) → IsPermutation items menu → HaveOwnPaths items → HaveOwnPaths menu
own_moved items menu moved own =
    IsDistinct-IsPermutation bytes_eq nat_list_eq_equiv.symm (map (λ (item : MenuItem). item.path) items) (map (λ (item : MenuItem). item.path) menu)
    (IsPermutation-map (λ (item : MenuItem). item.path) items menu moved) own
