-- The places of the doomed records.
use Rattle.std.proofs.Common.{◌≡◌, ℕ, zero, suc, ◌+◌, ◌≤◌, ◌<◌, Bool, true, false, List, [], ◌∷◌, ◌++◌, Option, Some, None, reverse, length, get_or, map, take, refl, sym, ap, ◌∙◌, subst, arith, append_assoc, length-append, All, AllPairs, slice_get, if◌then◌else◌}
use Rattle.std.specs.List.{cons_option, filter_map}
use Rattle.std.proofs.lemmas.List.{append-nil, map-append, reverse-append, take_more}
use Rattle.std.proofs.lemmas.List.Elements.{All-append, All-cons, All-nil, filter_map-append}
use Rattle.std.proofs.lemmas.List.Kept.{AllPairs-cons}
use Rattle.menu_order.specs.declared.item.MenuItem.{MenuItem}
use Rattle.menu_order.specs.Doomed.{doomed_behind, doomed_records, doomed_places, is_kept_record, places_behind}
use Rattle.menu_order.specs.KeepLaws.{PlacesDescend, PlacesDoomed}

-- ---- lists from their last element on

reverse_cons : {X : Type 0} (x : X) (xs : List X) → reverse (x ∷ xs) ≡ reverse xs ++ x ∷ []
reverse_cons x xs = reverse-append (x ∷ []) xs

-- what is chosen from a list from its last on
chosen_back : {X Y : Type 0} (f : X → Option Y) (xs : List X) → filter_map f (reverse xs) ≡ reverse (filter_map f xs)
chosen_back f [] = refl
chosen_back f (x ∷ xs) =
    ap (filter_map f) (reverse_cons x xs)
    ∙ filter_map-append f (reverse xs) (x ∷ [])
    ∙ ap (λ ys. ys ++ cons_option (f x) []) (chosen_back f xs)
    ∙ by (f x) (filter_map f xs)
  where
    by : {Y : Type 0} (o : Option Y) (ys : List Y) → reverse ys ++ cons_option o [] ≡ reverse (cons_option o ys)
    by None ys = append-nil (reverse ys)
    by (Some y) ys = sym (reverse_cons y ys)

-- the last of a list behind the others
module _ {X : Type 0} (R : X → X → Type 0) where
  AllPairs-push : (xs : List X) (x : X) → AllPairs R xs → All (λ y. R y x) xs → AllPairs R (xs ++ x ∷ [])
  AllPairs-push [] x pairs all = λ i j d below within. absurd (omega arith)
  AllPairs-push (y ∷ xs) x pairs all =
      AllPairs-cons R y (xs ++ x ∷ [])
      (All-append (R y) xs (x ∷ []) (λ k d lt. pairs 0 (suc k) d (omega arith) (omega arith)) (All-cons (R y) x [] (all 0 y (omega arith)) (All-nil (R y))))
      (AllPairs-push xs x (λ i j d below within. pairs (suc i) (suc j) d (omega arith) (omega arith)) (λ k d lt. all (suc k) d (omega arith)))

All-reverse : {X : Type 0} (P : X → Type 0) (xs : List X) → All P xs → All P (reverse xs)
All-reverse P [] all = all
All-reverse P (x ∷ xs) all =
    subst (All P) (sym (reverse_cons x xs))
    (All-append P (reverse xs) (x ∷ []) (All-reverse P xs (λ k d lt. all (suc k) d (omega arith)))
    (All-cons P x [] (all 0 x (omega arith)) (All-nil P)))

pairs_back : {X : Type 0} (R : X → X → Type 0) (xs : List X) → AllPairs R xs → AllPairs (λ a b. R b a) (reverse xs)
pairs_back R [] pairs = pairs
pairs_back R (x ∷ xs) pairs =
    subst (AllPairs (λ a b. R b a)) (sym (reverse_cons x xs))
    (AllPairs-push (λ a b. R b a) (reverse xs) x
    (pairs_back R xs (λ i j d below within. pairs (suc i) (suc j) d (omega arith) (omega arith)))
    (All-reverse (R x) xs (λ k d lt. pairs 0 (suc k) d (omega arith) (omega arith))))

-- ---- the places

got : (earlier later : List MenuItem) (item : MenuItem) → slice_get (earlier ++ item ∷ later) (length earlier) ≡ Some item
got [] later item = refl
got (first ∷ earlier) later item = got earlier later item

module _ (n : ℕ) (per_key : Bool) where
  placed : (earlier later : List MenuItem) → filter_map (slice_get (earlier ++ later)) (places_behind n per_key earlier later) ≡ doomed_behind n per_key earlier later
  placed earlier [] = refl
  placed earlier (item ∷ later) =
      by (subst (λ (l : List MenuItem). filter_map (slice_get l) (places_behind n per_key (earlier ++ item ∷ []) later) ≡ doomed_behind n per_key
      (earlier ++ item ∷ []) later) (append_assoc earlier (item ∷ []) later) (placed (earlier ++ item ∷ []) later))
      (is_kept_record n per_key earlier item)
    where
      by : filter_map (slice_get (earlier ++ item ∷ later)) (places_behind n per_key (earlier ++ item ∷ []) later) ≡ doomed_behind n per_key
          (earlier ++ item ∷ []) later → (keep : Bool)
          → filter_map (slice_get (earlier ++ item ∷ later)) ((if keep then [] else (length earlier ∷ [])) ++ places_behind n per_key (earlier ++ item ∷ []) later)
          ≡ (if keep then [] else (item ∷ [])) ++ doomed_behind n per_key (earlier ++ item ∷ []) later
      by rest true = rest
      by rest false = ap (λ o. cons_option o (filter_map (slice_get (earlier ++ item ∷ later)) (places_behind n per_key (earlier ++ item ∷ []) later))) (got earlier later item)
          ∙ ap (λ (l : List MenuItem). item ∷ l) rest

  -- the places of a menu's rest lie in it, and rise
  record Rises (low high : ℕ) (places : List ℕ) : Type 0 where
    from : All (λ place. low ≤ place) places
    upto : All (λ place. place < high) places
    up : AllPairs (λ one later. one < later) places

  rise : (earlier later : List MenuItem) → Rises (length earlier) (length earlier + length later) (places_behind n per_key earlier later)
  rise earlier [] = record { from = All-nil (λ place. length earlier ≤ place); upto = All-nil (λ place. place < length earlier + 0); up = λ i j d below within. absurd (omega arith) }
  rise earlier (item ∷ later) = by (rise (earlier ++ item ∷ []) later) (is_kept_record n per_key earlier item)
    where
      long : length (earlier ++ item ∷ []) ≡ length earlier + 1
      long = length-append earlier (item ∷ [])

      above : Rises (length (earlier ++ item ∷ [])) (length (earlier ++ item ∷ []) + length later)
          (places_behind n per_key (earlier ++ item ∷ []) later) → All (λ place. length earlier < place) (places_behind n per_key (earlier ++ item ∷ []) later)
      above rest = λ k d lt. omega (arith, long, rest.from k d lt)

      by : Rises (length (earlier ++ item ∷ [])) (length (earlier ++ item ∷ []) + length later)
          (places_behind n per_key (earlier ++ item ∷ []) later) → (keep : Bool)
          → Rises (length earlier) (length earlier + length (item ∷ later)) ((if keep then [] else (length earlier ∷ [])) ++ places_behind n per_key (earlier ++ item ∷ []) later)
      by rest true = record {
        from = λ k d lt. omega (arith, above rest k d lt);
        upto = λ k d lt. omega (arith, long, rest.upto k d lt);
        up = rest.up;
      }
      by rest false = record {
        from = All-cons (λ place. length earlier ≤ place) (length earlier) _ (omega arith) (λ k d lt. omega (arith, above rest k d lt));
        upto = All-cons (λ place. place < length earlier + suc (length later)) (length earlier) _ (omega arith) (λ k d lt. omega (arith, long, rest.upto k d lt));
        up = AllPairs-cons (λ one later. one < later) (length earlier) _ (above rest) rest.up;
      }

pub places_doomed : PlacesDoomed
unfolding doomed_records doomed_places
places_doomed n per_key menu = chosen_back (slice_get menu) (places_behind n per_key [] menu) ∙ ap reverse (placed n per_key [] menu)

pub places_descend : PlacesDescend
unfolding doomed_places
places_descend n per_key menu =
    let rises = rise n per_key [] menu in
    record {
      within = All-reverse (λ place. place < length menu) (places_behind n per_key [] menu) (λ k d lt. omega (arith, rises.upto k d lt));
      down = pairs_back (λ one later. one < later) (places_behind n per_key [] menu) rises.up;
    }

-- ---- paths

found_at : (items : List MenuItem) (k : ℕ) (item : MenuItem) → k < length items → item ≡ get_or items k item → slice_get items k ≡ Some item
found_at [] k item inside is = absurd (omega arith)
found_at (first ∷ items) zero item inside is = ap (λ (x : MenuItem). Some x) (sym is)
found_at (first ∷ items) (suc k) item inside is = found_at items k item (omega arith) is

-- one path more
pub path_more : (items : List MenuItem) (places : List ℕ) (i : ℕ) (item : MenuItem) (old new : List (List ℕ)) (path : List ℕ)
    → i < length places → get_or places i 0 < length items → item ≡ get_or items (get_or places i 0) item → path ≡ item.path
    → old ≡ map (λ (x : MenuItem). x.path) (filter_map (slice_get items) (take i places))
    → new ≡ old ++ path ∷ []
    → new ≡ map (λ (x : MenuItem). x.path) (filter_map (slice_get items) (take (i + 1) places))
path_more items places i item old new path inside within is at was now =
    let front : List MenuItem = filter_map (slice_get items) (take i places) in
    now
    ∙ ap (λ (l : List (List ℕ)). l ++ path ∷ []) was
    ∙ ap (λ (p : List ℕ). map (λ (x : MenuItem). x.path) front ++ p ∷ []) at
    ∙ sym (map-append (λ (x : MenuItem). x.path) front (item ∷ []))
    ∙ ap (map (λ (x : MenuItem). x.path))
    (ap (λ o. front ++ cons_option o []) (sym (found_at items (get_or places i 0) item within is))
    ∙ sym (filter_map-append (slice_get items) (take i places) (get_or places i 0 ∷ []))
    ∙ ap (filter_map (slice_get items)) (sym (take_more places i 0 inside)))
