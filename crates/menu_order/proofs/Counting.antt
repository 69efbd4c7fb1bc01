-- How many records of a group are kept, and that a good one is.
use Rattle.std.proofs.Common.{◌≡◌, ◌⊎◌, ℕ, ◌+◌, ◌≤◌, ◌<◌, min, Bool, true, false, not, cond, ◌&&◌, ◌||◌, List, [], ◌∷◌, ◌++◌, Option, Some, None, refl, sym, ap, ◌∙◌, subst, inl, inr, ⊎_elim, arith, nat_lt, if◌then◌else◌, append-nil}
use Rattle.std.proofs.lemmas.Bool.{and_parts, ltb-true, ltb-false, not-true, or_parts}
use Rattle.std.proofs.lemmas.List.Sums.{sum_by_push}
use Rattle.std.proofs.lemmas.List.Folds.{list_any-append}
use Rattle.std.proofs.lemmas.Slice.Eq.{bytes_eq-Decides}
use Rattle.menu_order.specs.declared.item.MenuItem.{MenuItem}
use Rattle.menu_order.specs.Doomed.{group_of, group_size, has_good, is_good, is_in, is_kept_record, kept_records, same_group}
use Rattle.menu_order.proofs.Walking.{kept_one, kept_walk}

-- two groups that are one are equal
pub same_is : (group other : Option (List ℕ)) → same_group group other ≡ true → group ≡ other
same_is None None is = refl
same_is None (Some other) is = cc
same_is (Some key) None is = cc
same_is (Some key) (Some other) is = ap (λ (k : List ℕ). Some k) ((bytes_eq-Decides key other).0 is)

pub or_end : (a b : Bool) → (a || (b || false)) ≡ (a || b)
or_end true b = refl
or_end false true = refl
or_end false false = refl

pub or_false : (a : Bool) → (a || false) ≡ a
or_false true = refl
or_false false = refl

pub size_push : (per_key : Bool) (group : Option (List ℕ)) (items : List MenuItem) (item : MenuItem)
    → group_size per_key group (items ++ item ∷ []) ≡ group_size per_key group items + cond (is_in per_key group item) 1 0
size_push per_key group items item = sum_by_push (λ (i : MenuItem). cond (is_in per_key group i) 1 0) items item

pub good_push : (per_key : Bool) (group : Option (List ℕ)) (items : List MenuItem) (item : MenuItem)
    → has_good per_key group (items ++ item ∷ []) ≡ (has_good per_key group items || (is_in per_key group item && is_good item))
good_push per_key group items item =
    list_any-append (λ (i : MenuItem). is_in per_key group i && is_good i) items (item ∷ [])
    ∙ or_end (has_good per_key group items) (is_in per_key group item && is_good item)

-- what is kept of one record counts if it is kept and of the group
pub size_kept : (per_key : Bool) (group : Option (List ℕ)) (kept : List MenuItem) (item : MenuItem) (keep : Bool)
    → group_size per_key group (kept ++ (if keep then (item ∷ []) else []))
    ≡ group_size per_key group kept + cond keep (cond (is_in per_key group item) 1 0) 0
size_kept per_key group kept item true = size_push per_key group kept item
size_kept per_key group kept item false = ap (group_size per_key group) (append-nil kept) ∙ omega arith

pub good_kept : (per_key : Bool) (group : Option (List ℕ)) (kept : List MenuItem) (item : MenuItem) (keep : Bool)
    → has_good per_key group (kept ++ (if keep then (item ∷ []) else []))
    ≡ (has_good per_key group kept || (keep && (is_in per_key group item && is_good item)))
good_kept per_key group kept item true = good_push per_key group kept item
good_kept per_key group kept item false = ap (has_good per_key group) (append-nil kept) ∙ sym (or_false (has_good per_key group kept))

-- ---- one record, over plain values

first_step : (n size kept : ℕ) (here keep : Bool) → min n size ≤ kept → (here ≡ true → keep ≡ false → n ≤ size)
    → min n (size + cond here 1 0) ≤ kept + cond keep (cond here 1 0) 0
first_step n size kept true true held full = omega arith
first_step n size kept true false held full = let whole : n ≤ size = full refl refl in omega arith
first_step n size kept false true held full = omega arith
first_step n size kept false false held full = omega arith

module _ (n : ℕ) (per_key : Bool) (group : Option (List ℕ)) where
  -- a record of the group that isn't kept stands behind n of them
  not_first : (earlier : List MenuItem) (item : MenuItem) → is_in per_key group item ≡ true
      → is_kept_record n per_key earlier item ≡ false → n ≤ group_size per_key group earlier
  not_first earlier item here gone =
      let same : group ≡ group_of per_key item = same_is group (group_of per_key item) here in
      subst (λ g. n ≤ group_size per_key g earlier) (sym same)
      (ltb-false (group_size per_key (group_of per_key item) earlier) n (or_parts _ _ gone).0)

  pub keeps_first : (menu : List MenuItem)
      → min n (group_size per_key group menu) ≤ group_size per_key group (kept_records n per_key menu)
  keeps_first menu = kept_walk n per_key
      (λ earlier kept. min n (group_size per_key group earlier) ≤ group_size per_key group kept)
      (λ earlier kept item held.
      let keep : Bool = is_kept_record n per_key earlier item in
      subst (λ s. min n s ≤ group_size per_key group (kept ++ kept_one n per_key earlier item)) (sym (size_push per_key group earlier item))
      (subst (λ s. min n (group_size per_key group earlier + cond (is_in per_key group item) 1 0) ≤ s) (sym (size_kept per_key group kept item keep))
      (first_step n (group_size per_key group earlier) (group_size per_key group kept) (is_in per_key group item) keep held
      (λ here gone. not_first earlier item here gone))))
      menu (omega arith)

-- at most n, and one more if a good one is there
few_step : (n size kept : ℕ) (here keep good before : Bool) → kept ≤ min n size + cond before 1 0
    → (here ≡ true → keep ≡ true → (size < n) ⊎ ((good ≡ true) × (before ≡ false)))
    → kept + cond keep (cond here 1 0) 0 ≤ min n (size + cond here 1 0) + cond (before || (here && good)) 1 0
few_step n size kept false true good true held why = omega arith
few_step n size kept false true good false held why = omega arith
few_step n size kept false false good true held why = omega arith
few_step n size kept false false good false held why = omega arith
few_step n size kept true false good true held why = omega arith
few_step n size kept true false true false held why = omega arith
few_step n size kept true false false false held why = omega arith
few_step n size kept true true good true held why = ⊎_elim (λ (below : size < n). omega arith) (λ first. cc) (why refl refl)
few_step n size kept true true true false held why = omega arith
few_step n size kept true true false false held why = ⊎_elim (λ (below : size < n). omega arith) (λ first. cc) (why refl refl)

-- a good one of the group is kept if it is the first
good_step : (here good before kept keep : Bool) → (before ≡ true → kept ≡ true)
    → (here ≡ true → good ≡ true → before ≡ false → keep ≡ true)
    → (before || (here && good)) ≡ true → (kept || (keep && (here && good))) ≡ true
good_step here good before true keep held first some = refl
good_step here good true false keep held first some = absurd (differ (sym (held refl)))
  where
    differ : true ≡ false → ⊥
    differ e = cc
good_step true true false false true held first some = refl
good_step true true false false false held first some = first refl refl refl
good_step true false false false keep held first some = cc
good_step false good false false keep held first some = cc

module _ (n : ℕ) (per_key : Bool) (group : Option (List ℕ)) where
  -- why a record of the group is kept
  pub why_kept : (earlier : List MenuItem) (item : MenuItem) → is_in per_key group item ≡ true → is_kept_record n per_key earlier item ≡ true
      → (group_size per_key group earlier < n) ⊎ ((is_good item ≡ true) × (has_good per_key group earlier ≡ false))
  why_kept earlier item here stays =
      let same : group ≡ group_of per_key item = same_is group (group_of per_key item) here in
      subst (λ g. (group_size per_key g earlier < n) ⊎ ((is_good item ≡ true) × (has_good per_key g earlier ≡ false))) (sym same)
      (by (nat_lt (group_size per_key (group_of per_key item) earlier) n) refl stays)
    where
      by : (b : Bool) → nat_lt (group_size per_key (group_of per_key item) earlier) n ≡ b
          → (b || (is_good item && not (has_good per_key (group_of per_key item) earlier))) ≡ true
          → (group_size per_key (group_of per_key item) earlier < n) ⊎ ((is_good item ≡ true) × (has_good per_key (group_of per_key item) earlier ≡ false))
      by true below stays = inl (ltb-true _ n below)
      by false beyond stays =
          let both = and_parts (is_good item) (not (has_good per_key (group_of per_key item) earlier)) stays in
          inr (both.0, not-true _ both.1)

  first_good : (earlier : List MenuItem) (item : MenuItem) → is_in per_key group item ≡ true → is_good item ≡ true
      → has_good per_key group earlier ≡ false → is_kept_record n per_key earlier item ≡ true
  first_good earlier item here good none =
      let same : group ≡ group_of per_key item = same_is group (group_of per_key item) here in
      by (nat_lt (group_size per_key (group_of per_key item) earlier) n) (is_good item) (has_good per_key (group_of per_key item) earlier) good
      (ap (λ g. has_good per_key g earlier) (sym same) ∙ none)
    where
      by : (below good before : Bool) → good ≡ true → before ≡ false → (below || (good && not before)) ≡ true
      by true good before is none = refl
      by false true false is none = refl
      by false true true is none = sym none
      by false false before is none = cc

  pub keeps_few : (menu : List MenuItem) → group_size per_key group (kept_records n per_key menu) ≤ n + 1
  keeps_few menu = at_most (group_size per_key group menu) (group_size per_key group (kept_records n per_key menu)) (has_good per_key group menu) (kept_walk n per_key
      (λ earlier kept. group_size per_key group kept ≤ min n (group_size per_key group earlier) + cond (has_good per_key group earlier) 1 0)
      (λ earlier kept item held.
      let keep : Bool = is_kept_record n per_key earlier item in
      subst (λ s. s ≤ min n (group_size per_key group (earlier ++ item ∷ [])) + cond (has_good per_key group (earlier ++ item ∷ [])) 1 0) (sym (size_kept per_key group kept item keep))
      (subst (λ s. group_size per_key group kept + cond keep (cond (is_in per_key group item) 1 0) 0 ≤ min n s + cond
      (has_good per_key group (earlier ++ item ∷ [])) 1 0) (sym (size_push per_key group earlier item))
      (subst (λ b. group_size per_key group kept + cond keep (cond (is_in per_key group item) 1 0) 0 ≤ min n
      (group_size per_key group earlier + cond (is_in per_key group item) 1 0) + cond b 1 0) (sym (good_push per_key group earlier item))
      (few_step n (group_size per_key group earlier) (group_size per_key group kept) (is_in per_key group item) keep (is_good item) (has_good per_key group earlier) held
      (why_kept earlier item)))))
      menu (omega arith))
    where
      at_most : (size kept : ℕ) (b : Bool) → kept ≤ min n size + cond b 1 0 → kept ≤ n + 1
      at_most size kept true held = omega arith
      at_most size kept false held = omega arith

  pub keeps_good : (menu : List MenuItem) → has_good per_key group menu ≡ true → has_good per_key group (kept_records n per_key menu) ≡ true
  keeps_good menu = kept_walk n per_key
      (λ earlier kept. has_good per_key group earlier ≡ true → has_good per_key group kept ≡ true)
      (λ earlier kept item held some.
      let keep : Bool = is_kept_record n per_key earlier item in
      good_kept per_key group kept item keep
      ∙ good_step (is_in per_key group item) (is_good item) (has_good per_key group earlier) (has_good per_key group kept) keep held
      (first_good earlier item) (sym (good_push per_key group earlier item) ∙ some))
      menu (λ none. none)
