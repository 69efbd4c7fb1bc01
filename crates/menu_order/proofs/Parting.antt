-- What is kept and what is doomed are the menu.
use Rattle.std.proofs.Common.{ℕ, Bool, true, false, List, [], ◌∷◌, ◌++◌, reverse, IsPermutation, if◌then◌else◌}
use Rattle.std.proofs.lemmas.List.Sorted.{IsPermutation-append_right, IsPermutation-cons, IsPermutation-middle, IsPermutation-refl, IsPermutation-reverse, IsPermutation-sym, IsPermutation-trans}
use Rattle.menu_order.specs.declared.item.MenuItem.{MenuItem}
use Rattle.menu_order.specs.Doomed.{doomed_behind, doomed_records, is_kept_record, kept_behind, kept_records}
use Rattle.menu_order.specs.KeepLaws.{PartsMenu}

-- a record goes to the one or to the other
one_more : (item : MenuItem) (later kept doomed : List MenuItem) (keep : Bool) → IsPermutation later (kept ++ doomed)
    → IsPermutation (item ∷ later) (((if keep then (item ∷ []) else []) ++ kept) ++ ((if keep then [] else (item ∷ [])) ++ doomed))
one_more item later kept doomed true are = IsPermutation-cons item later (kept ++ doomed) are
one_more item later kept doomed false are =
    IsPermutation-trans (item ∷ later) (item ∷ (kept ++ doomed)) (kept ++ (item ∷ doomed))
    (IsPermutation-cons item later (kept ++ doomed) are)
    (IsPermutation-sym (kept ++ (item ∷ doomed)) (item ∷ (kept ++ doomed)) (IsPermutation-middle kept item doomed))

module _ (n : ℕ) (per_key : Bool) where
  parted : (earlier later : List MenuItem) → IsPermutation later (kept_behind n per_key earlier later ++ doomed_behind n per_key earlier later)
  parted earlier [] = IsPermutation-refl []
  parted earlier (item ∷ later) =
      one_more item later (kept_behind n per_key (earlier ++ item ∷ []) later) (doomed_behind n per_key (earlier ++ item ∷ []) later)
      (is_kept_record n per_key earlier item) (parted (earlier ++ item ∷ []) later)

pub parts_menu : PartsMenu
unfolding kept_records doomed_records
parts_menu n per_key menu =
    let kept = kept_behind n per_key [] menu in
    let doomed = doomed_behind n per_key [] menu in
    IsPermutation-trans menu (kept ++ doomed) (kept ++ reverse doomed) (parted n per_key [] menu)
    (IsPermutation-append_right kept doomed (reverse doomed) (IsPermutation-reverse doomed))
