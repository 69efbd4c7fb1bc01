-- The tallies of the groups, record by record.
use Rattle.std.proofs.Common.{◌≡◌, ℕ, ◌+◌, ◌≤◌, ◌<◌, Bool, true, false, cond, ◌&&◌, ◌||◌, List, [], ◌∷◌, ◌++◌, Option, Some, None, length, take, get_or, refl, sym, ap, ◌∙◌, arith, append_assoc, unwrap_or, if◌then◌else◌}
use Rattle.std.specs.BTreeMap.{BTreeMap, get, is_at}
use Rattle.std.specs.Map.{lookup}
use Rattle.std.specs.Cmp.Lexicographic.{texts_ties}
use Rattle.std.proofs.lemmas.Cmp.{nat_list_eq_equiv}
use Rattle.std.proofs.lemmas.List.{append-nil, length-take-le, take_more}
use Rattle.std.proofs.lemmas.List.Sums.{count_by-le-length}
use Rattle.menu_order.specs.declared.item.MenuItem.{MenuItem}
use Rattle.menu_order.specs.declared.newest.Tally.{Tally}
use Rattle.menu_order.specs.Doomed.{group_of, group_size, has_good, is_good, is_in, is_kept_record, places_behind, same_group}
use Rattle.menu_order.specs.Tallies.{AreTallies, Group, by_key, key_in, no_tally, tally_of}
use Rattle.menu_order.proofs.Counting.{good_push, same_is, size_push}

-- ---- places

pub places_push : (n : ℕ) (per_key : Bool) (earlier later : List MenuItem) (item : MenuItem)
    → places_behind n per_key earlier (later ++ item ∷ [])
    ≡ places_behind n per_key earlier later ++ (if is_kept_record n per_key (earlier ++ later) item then [] else (length (earlier ++ later) ∷ []))
places_push n per_key earlier [] item =
    append-nil (if is_kept_record n per_key earlier item then [] else (length earlier ∷ []))
    ∙ ap (λ (l : List MenuItem). if is_kept_record n per_key l item then [] else (length l ∷ [])) (sym (append-nil earlier))
places_push n per_key earlier (first ∷ later) item =
    let here : List ℕ = if is_kept_record n per_key earlier first then [] else (length earlier ∷ []) in
    ap (λ (l : List ℕ). here ++ l) (places_push n per_key (earlier ++ first ∷ []) later item)
    ∙ sym (append_assoc here (places_behind n per_key (earlier ++ first ∷ []) later)
    (if is_kept_record n per_key ((earlier ++ first ∷ []) ++ later) item then [] else (length ((earlier ++ first ∷ []) ++ later) ∷ [])))
    ∙ ap (λ (l : List MenuItem). (here ++ places_behind n per_key (earlier ++ first ∷ []) later) ++
    (if is_kept_record n per_key l item then [] else (length l ∷ []))) (append_assoc earlier (first ∷ []) later)

pub place_more : (n : ℕ) (per_key : Bool) (items : List MenuItem) (i : ℕ) (item : MenuItem) (keep : Bool)
    → i < length items → item ≡ get_or items i item → keep ≡ is_kept_record n per_key (take i items) item
    → places_behind n per_key [] (take (i + 1) items) ≡ places_behind n per_key [] (take i items) ++ (if keep then [] else (i ∷ []))
place_more n per_key items i item keep inside is kept =
    ap (places_behind n per_key []) (take_more items i item inside ∙ ap (λ (x : MenuItem). take i items ++ x ∷ []) (sym is))
    ∙ places_push n per_key [] (take i items) item
    ∙ ap (λ b. places_behind n per_key [] (take i items) ++ (if b then [] else (length (take i items) ∷ []))) (sym kept)
    ∙ ap (λ k. places_behind n per_key [] (take i items) ++ (if keep then [] else (k ∷ []))) (length-take-le i items (omega arith))

-- ---- tallies

pub none_yet : (per_key : Bool) (tallies : BTreeMap Group Tally) → tallies.entries ≡ [] → AreTallies per_key [] tallies
none_yet per_key tallies empty = record { each = λ group. ap (λ (es : List (Group × Tally)). unwrap_or (lookup (is_at (by_key group)) es) no_tally) empty }

-- a map finds a group if its key is that one
at_key : (one other : Group) → is_at (by_key one) other ≡ same_group (key_in other) (key_in one)
at_key None None = refl
at_key None (Some key) = refl
at_key (Some key) None = refl
at_key (Some key) (Some other) = sym (texts_ties key.now other.now) ∙ nat_list_eq_equiv.symm key.now other.now

-- a tally that is written is that with one record more
one_more : (per_key : Bool) (group : Option (List ℕ)) (before : Option Tally) (after : Tally) (items : List MenuItem) (item : MenuItem) (here : Bool)
    → is_in per_key group item ≡ here
    → unwrap_or before no_tally ≡ tally_of per_key group items
    → (here ≡ true → (after.size ≡ group_size per_key group items + 1) × (after.has_good ≡ (has_good per_key group items || is_good item)))
    → unwrap_or (cond here (Some after) before) no_tally ≡ tally_of per_key group (items ++ item ∷ [])
one_more per_key group before after items item true at was now =
    tally_same after (tally_of per_key group (items ++ item ∷ []))
    ((now refl).0 ∙ ap (λ b. group_size per_key group items + cond b 1 0) (sym at) ∙ sym (size_push per_key group items item))
    ((now refl).1 ∙ ap (λ b. has_good per_key group items || (b && is_good item)) (sym at) ∙ sym (good_push per_key group items item))
  where
    tally_same : (a b : Tally) → a.size ≡ b.size → a.has_good ≡ b.has_good → a ≡ b
    tally_same a b size good = ap (λ s. record { size = s; has_good = a.has_good }) size ∙ ap (λ g. record { size = b.size; has_good = g }) good
one_more per_key group before after items item false at was now =
    was
    ∙ ap (λ s. record { size = s; has_good = has_good per_key group items })
    (omega arith ∙ ap (λ b. group_size per_key group items + cond b 1 0) (sym at) ∙ sym (size_push per_key group items item))
    ∙ ap (λ g. record { size = group_size per_key group (items ++ item ∷ []); has_good = g })
    (sym (or_false (has_good per_key group items)) ∙ ap (λ b. has_good per_key group items || (b && is_good item)) (sym at) ∙ sym (good_push per_key group items item))
  where
    or_false : (a : Bool) → (a || false) ≡ a
    or_false true = refl
    or_false false = refl

pub tallies_more : (per_key : Bool) (items : List MenuItem) (i : ℕ) (item : MenuItem) (old new : BTreeMap Group Tally) (group : Group) (before after : Tally)
    → i < length items → item ≡ get_or items i item → key_in group ≡ group_of per_key item
    → AreTallies per_key (take i items) old
    → before ≡ tally_of per_key (group_of per_key item) (take i items)
    → after.size ≡ before.size + 1 → after.has_good ≡ (before.has_good || is_good item)
    → ((q : Group) → get by_key new q ≡ cond (is_at (by_key group) q) (Some after) (get by_key old q))
    → AreTallies per_key (take (i + 1) items) new
tallies_more per_key items i item old new group before after inside is key are was size good now = record {
  each = λ q.
      let more : take (i + 1) items ≡ take i items ++ item ∷ [] = take_more items i item inside ∙ ap (λ (x : MenuItem). take i items ++ x ∷ []) (sym is) in
      let at : is_at (by_key group) q ≡ is_in per_key (key_in q) item = at_key group q ∙ ap (same_group (key_in q)) key in
      ap (λ o. unwrap_or o no_tally) (now q ∙ ap (λ b. cond b (Some after) (get by_key old q)) at)
      ∙ one_more per_key (key_in q) (get by_key old q) after (take i items) item (is_in per_key (key_in q) item) refl (are.each q)
      (λ here.
      let same : key_in q ≡ group_of per_key item = same_is (key_in q) (group_of per_key item) here in
      let tally : before ≡ tally_of per_key (key_in q) (take i items) = was ∙ ap (λ g. tally_of per_key g (take i items)) (sym same) in
      (size ∙ ap (λ (t : Tally). t.size + 1) tally, good ∙ ap (λ (t : Tally). t.has_good || is_good item) tally))
      ∙ ap (tally_of per_key (key_in q)) (sym more);
}

-- a group has no more than all
pub size_within : (per_key : Bool) (group : Option (List ℕ)) (items : List MenuItem) (i : ℕ) → i < length items → group_size per_key group (take i items) ≤ i
size_within per_key group items i inside = omega (arith, count_by-le-length (is_in per_key group) (take i items), length-take-le i items (omega arith))
