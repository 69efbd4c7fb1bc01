-- Of what is kept nothing is doomed.
use Rattle.std.proofs.Common.{◌≡◌, ℕ, ◌+◌, ◌≤◌, ◌<◌, Bool, true, false, not, cond, ◌&&◌, ◌||◌, List, [], ◌∷◌, ◌++◌, Option, Some, None, reverse, refl, sym, ap, ◌∙◌, subst, ⊎_elim, arith, append_assoc, nat_lt, if◌then◌else◌, lt-ltb, append-nil}
use Rattle.std.proofs.lemmas.Cmp.{nat_list_eq_equiv}
use Rattle.menu_order.specs.declared.item.MenuItem.{MenuItem}
use Rattle.menu_order.specs.Doomed.{doomed_behind, doomed_records, group_of, group_size, has_good, is_good, is_in, is_kept_record, kept_behind, kept_records, same_group}
use Rattle.menu_order.specs.KeepLaws.{KeepsOnce}
use Rattle.menu_order.proofs.Walking.{along, kept_one, kept_walk}
use Rattle.menu_order.proofs.Counting.{good_kept, good_push, size_kept, size_push, why_kept}

-- what is doomed of one record more
pub doomed_push : (n : ℕ) (per_key : Bool) (earlier later : List MenuItem) (item : MenuItem)
    → doomed_behind n per_key earlier (later ++ item ∷ [])
    ≡ doomed_behind n per_key earlier later ++ (if is_kept_record n per_key (earlier ++ later) item then [] else (item ∷ []))
doomed_push n per_key earlier [] item =
    append-nil (if is_kept_record n per_key earlier item then [] else (item ∷ []))
    ∙ ap (λ (l : List MenuItem). if is_kept_record n per_key l item then [] else (item ∷ [])) (sym (append-nil earlier))
doomed_push n per_key earlier (first ∷ later) item =
    let here : List MenuItem = if is_kept_record n per_key earlier first then [] else (first ∷ []) in
    ap (λ (l : List MenuItem). here ++ l) (doomed_push n per_key (earlier ++ first ∷ []) later item)
    ∙ sym (append_assoc here (doomed_behind n per_key (earlier ++ first ∷ []) later) (if is_kept_record n per_key ((earlier ++ first ∷ []) ++ later) item then [] else (item ∷ [])))
    ∙ ap (λ (l : List MenuItem). (here ++ doomed_behind n per_key (earlier ++ first ∷ []) later) ++
    (if is_kept_record n per_key l item then [] else (item ∷ []))) (append_assoc earlier (first ∷ []) later)

-- what is kept of some records has no more of any group than they, and no more of it is doomed than before
record IsFront (n : ℕ) (per_key : Bool) (doomed earlier kept : List MenuItem) : Type 0 where
  size : (group : Option (List ℕ)) → group_size per_key group kept ≤ group_size per_key group earlier
  good : (group : Option (List ℕ)) → has_good per_key group kept ≡ true → has_good per_key group earlier ≡ true
  stays : doomed_behind n per_key [] kept ≡ doomed

size_step : (size kept : ℕ) (keep here : Bool) → kept ≤ size → kept + cond keep (cond here 1 0) 0 ≤ size + cond here 1 0
size_step size kept true true held = omega arith
size_step size kept true false held = omega arith
size_step size kept false true held = omega arith
size_step size kept false false held = omega arith

good_back : (before kept keep here : Bool) → (kept ≡ true → before ≡ true) → (kept || (keep && here)) ≡ true → (before || here) ≡ true
good_back true kept keep here held some = refl
good_back false true keep here held some = absurd (differ (held refl))
  where
    differ : false ≡ true → ⊥
    differ e = cc
good_back false false true here held some = some
good_back false false false here held some = cc

module _ (n : ℕ) (per_key : Bool) where
  again : (doomed earlier kept : List MenuItem) (item : MenuItem) → IsFront n per_key doomed earlier kept
      → is_kept_record n per_key earlier item ≡ true → is_kept_record n per_key kept item ≡ true
  again doomed earlier kept item front stays =
      let group : Option (List ℕ) = group_of per_key item in
      ⊎_elim
      (λ (below : group_size per_key group earlier < n).
      let under : group_size per_key group kept < n = omega (arith, front.size group) in
      ap (λ (b : Bool). b || (is_good item && not (has_good per_key group kept))) (lt-ltb (group_size per_key group kept) n under))
      (λ (first : (is_good item ≡ true) × (has_good per_key group earlier ≡ false)).
      by (nat_lt (group_size per_key group kept) n) (is_good item) (has_good per_key group kept) (has_good per_key group earlier) first.0 first.1 (front.good group))
      (why_kept n per_key group earlier item (itself group) stays)
    where
      itself : (group : Option (List ℕ)) → same_group group group ≡ true
      itself None = refl
      itself (Some key) = nat_list_eq_equiv.refl key

      by : (below good kept before : Bool) → good ≡ true → before ≡ false → (kept ≡ true → before ≡ true) → (below || (good && not kept)) ≡ true
      by true good kept before is none held = refl
      by false true false before is none held = refl
      by false true true before is none held = sym none ∙ held refl
      by false false kept before is none held = is

  front_step : (doomed earlier kept : List MenuItem) (item : MenuItem) → IsFront n per_key doomed earlier kept
      → IsFront n per_key doomed (earlier ++ item ∷ []) (kept ++ kept_one n per_key earlier item)
  front_step doomed earlier kept item front = record {
    size = λ group.
        subst (λ s. s ≤ group_size per_key group (earlier ++ item ∷ [])) (sym (size_kept per_key group kept item (is_kept_record n per_key earlier item)))
        (subst (λ s. group_size per_key group kept + cond (is_kept_record n per_key earlier item) (cond (is_in per_key group item) 1 0) 0 ≤ s) (sym (size_push per_key group earlier item))
        (size_step (group_size per_key group earlier) (group_size per_key group kept) (is_kept_record n per_key earlier item) (is_in per_key group item) (front.size group)));
    good = λ group some.
        good_push per_key group earlier item
        ∙ good_back (has_good per_key group earlier) (has_good per_key group kept) (is_kept_record n per_key earlier item) (is_in per_key group item && is_good item) (front.good group)
        (sym (good_kept per_key group kept item (is_kept_record n per_key earlier item)) ∙ some);
    stays = by (is_kept_record n per_key earlier item) refl;
  }
    where
      by : (keep : Bool) → is_kept_record n per_key earlier item ≡ keep → doomed_behind n per_key [] (kept ++ (if keep then (item ∷ []) else [])) ≡ doomed
      by true is =
          doomed_push n per_key [] kept item
          ∙ ap (λ (b : Bool). doomed_behind n per_key [] kept ++ (if b then [] else (item ∷ []))) (again doomed earlier kept item front is)
          ∙ append-nil (doomed_behind n per_key [] kept)
          ∙ front.stays
      by false is = ap (doomed_behind n per_key []) (append-nil kept) ∙ front.stays

  all_stay : (menu : List MenuItem) → IsFront n per_key [] menu (kept_records n per_key menu)
  all_stay menu = kept_walk n per_key (IsFront n per_key []) (front_step []) menu (record { size = λ group. omega arith; good = λ group some. some; stays = refl })

  -- behind some records, what is kept of the rest dooms no more
  pub rest_stays : (front later : List MenuItem) → doomed_behind n per_key [] (front ++ kept_behind n per_key front later) ≡ doomed_behind n per_key [] front
  rest_stays front later =
      let doomed : List MenuItem = doomed_behind n per_key [] front in
      (along n per_key (IsFront n per_key doomed) (front_step doomed) front front later (record { size = λ group. omega arith; good = λ group some. some; stays = refl })).stays

pub keeps_once : KeepsOnce
unfolding doomed_records
keeps_once n per_key menu = ap reverse (all_stay n per_key menu).stays
