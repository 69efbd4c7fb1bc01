-- A list in the order of a number is cut where the number first passes a bound.
use Rattle.std.proofs.Common.{◌≡◌, ℕ, suc, ◌+◌, ◌<◌, ◌≤◌, Bool, true, false, cond, not, List, [], ◌∷◌, filter, take, drop, length, get_or, nat_le, nat_lt, refl, sym, ◌∙◌, ap, arith}
use Rattle.std.specs.List.{All, position_or_len, insert}
use Rattle.std.specs.List.Sorted.{IsNonDecreasingBy, IsPartitionPoint, IsPartitionedBy}
use Rattle.std.proofs.lemmas.Bool.Decides.{nat_tests}
use Rattle.std.proofs.lemmas.Grind.{common_steps}
use Rattle.std.proofs.lemmas.List.Sums.{fails_before_first, passes_at_first, position_or_len_is, prefix_len-le-length}
use Rattle.std.proofs.lemmas.List.Sorted.{IsNonDecreasingBy-insert}

-- the number is at most the bound; it is past it
abbrev pub is_within : {X : Type 0} → (X → ℕ) → ℕ → X → Bool
is_within n bound x = nat_le (n x) bound

abbrev pub is_past : {X : Type 0} → (X → ℕ) → ℕ → X → Bool
is_past n bound x = nat_lt bound (n x)

none_within : {X : Type 0} (n : X → ℕ) (bound : ℕ) (xs : List X) → All (λ x. bound < n x) xs → filter (is_within n bound) xs ≡ []
none_within n bound [] h = refl
none_within n bound (x ∷ xs) h =
    let first : bound < n x = h 0 x (omega arith) in
    let later : All (λ y. bound < n y) xs = λ k d lt. h (suc k) d (omega arith) in
    grind (arith, common_steps, nat_tests, none_within n bound xs later)

all_past : {X : Type 0} (n : X → ℕ) (bound : ℕ) (xs : List X) → All (λ x. bound < n x) xs → filter (is_past n bound) xs ≡ xs
all_past n bound [] h = refl
all_past n bound (x ∷ xs) h =
    let first : bound < n x = h 0 x (omega arith) in
    let later : All (λ y. bound < n y) xs = λ k d lt. h (suc k) d (omega arith) in
    grind (arith, common_steps, nat_tests, all_past n bound xs later)

-- where the first number is past the bound, so are all
all_past_first : {X : Type 0} (n : X → ℕ) (bound : ℕ) (x : X) (xs : List X) → IsNonDecreasingBy n (x ∷ xs) → bound < n x → All (λ y. bound < n y) (x ∷ xs)
all_past_first n bound x xs ordered past k d lt = let h = ordered 0 k d (omega arith) lt in omega (arith, h)

rest_ordered : {X : Type 0} (n : X → ℕ) (x : X) (xs : List X) → IsNonDecreasingBy n (x ∷ xs) → IsNonDecreasingBy n xs
rest_ordered n x xs ordered i j d le lt = ordered (suc i) (suc j) d (omega arith) (omega arith)

take_one_more : {X : Type 0} (x : X) (xs : List X) (m : ℕ) → take (1 + m) (x ∷ xs) ≡ x ∷ take m xs
take_one_more x xs m = let next : 1 + m ≡ suc m = omega arith in ap (λ k. take k (x ∷ xs)) next

drop_one_more : {X : Type 0} (x : X) (xs : List X) (m : ℕ) → drop (1 + m) (x ∷ xs) ≡ drop m xs
drop_one_more x xs m = let next : 1 + m ≡ suc m = omega arith in ap (λ k. drop k (x ∷ xs)) next

place_later : {X : Type 0} (n : X → ℕ) (bound : ℕ) (x : X) (xs : List X) → is_past n bound x ≡ false →
    position_or_len (is_past n bound) (x ∷ xs) ≡ 1 + position_or_len (is_past n bound) xs
place_later n bound x xs e = ap (λ b. cond (not b) (1 + position_or_len (is_past n bound) xs) 0) e

within_more : {X : Type 0} (n : X → ℕ) (bound : ℕ) (x : X) (xs : List X) → is_past n bound x ≡ false →
    filter (is_within n bound) (x ∷ xs) ≡ x ∷ filter (is_within n bound) xs
within_more n bound x xs e = grind (arith, nat_tests)

past_same : {X : Type 0} (n : X → ℕ) (bound : ℕ) (x : X) (xs : List X) → is_past n bound x ≡ false →
    filter (is_past n bound) (x ∷ xs) ≡ filter (is_past n bound) xs
past_same n bound x xs e = ap (λ b. cond b (x ∷ filter (is_past n bound) xs) (filter (is_past n bound) xs)) e

-- the elements within the bound are those before the first that is past it
pub within-take : {X : Type 0} (n : X → ℕ) (bound : ℕ) (xs : List X) → IsNonDecreasingBy n xs →
    filter (is_within n bound) xs ≡ take (position_or_len (is_past n bound) xs) xs
within-take n bound [] ordered = refl
within-take n bound (x ∷ xs) ordered =
    let place = position_or_len (is_past n bound) xs in
    elim (is_past n bound x) as (λ b. is_past n bound x ≡ b → filter (is_within n bound) (x ∷ xs) ≡ take (position_or_len (is_past n bound) (x ∷ xs)) (x ∷ xs)) [
      | true ↦ λ e. let past : bound < n x = grind (arith, nat_tests) in
          let none = none_within n bound (x ∷ xs) (all_past_first n bound x xs ordered past) in grind (arith, common_steps, nat_tests)
      | false ↦ λ e.
          within_more n bound x xs e
          ∙ ap (λ l. x ∷ l) (within-take n bound xs (rest_ordered n x xs ordered))
          ∙ sym (take_one_more x xs place)
          ∙ ap (λ k. take k (x ∷ xs)) (sym (place_later n bound x xs e))
    ] refl

-- those past it are the others
pub past-drop : {X : Type 0} (n : X → ℕ) (bound : ℕ) (xs : List X) → IsNonDecreasingBy n xs →
    filter (is_past n bound) xs ≡ drop (position_or_len (is_past n bound) xs) xs
past-drop n bound [] ordered = refl
past-drop n bound (x ∷ xs) ordered =
    let place = position_or_len (is_past n bound) xs in
    elim (is_past n bound x) as (λ b. is_past n bound x ≡ b → filter (is_past n bound) (x ∷ xs) ≡ drop (position_or_len (is_past n bound) (x ∷ xs)) (x ∷ xs)) [
      | true ↦ λ e. let past : bound < n x = grind (arith, nat_tests) in
          let all = all_past n bound (x ∷ xs) (all_past_first n bound x xs ordered past) in grind (arith, common_steps, nat_tests)
      | false ↦ λ e.
          past_same n bound x xs e
          ∙ past-drop n bound xs (rest_ordered n x xs ordered)
          ∙ sym (drop_one_more x xs place)
          ∙ ap (λ k. drop k (x ∷ xs)) (sym (place_later n bound x xs e))
    ] refl

-- put before the first element past its number, an element keeps the order
pub ordered-insert : {X : Type 0} (n : X → ℕ) (xs : List X) (y : X) → IsNonDecreasingBy n xs →
    IsNonDecreasingBy n (insert xs (position_or_len (is_past n (n y)) xs) y)
ordered-insert n xs y ordered =
    let place = position_or_len (is_past n (n y)) xs in
    IsNonDecreasingBy-insert n xs place y ordered (prefix_len-le-length (λ x. not (is_past n (n y) x)) xs)
    (λ k d before. let e = fails_before_first (is_past n (n y)) xs k d before in grind (arith, nat_tests))
    (λ k d behind lt.
    let e = passes_at_first (is_past n (n y)) xs d (omega arith) in
    let at : n (get_or xs place d) ≤ n (get_or xs k d) = ordered place k d behind lt in
    grind (arith, nat_tests))

-- a bound parts a list in the order of a number
pub parted : {X : Type 0} (n : X → ℕ) (bound : ℕ) (xs : List X) → IsNonDecreasingBy n xs → IsPartitionedBy (λ x. not (is_past n bound x)) xs
parted n bound xs ordered i j d le lt e = let h = ordered i j d le lt in grind (arith, nat_tests)

fails : (b : Bool) → not b ≡ true → b ≡ false
fails true e = sym e
fails false e = refl

passes : (b : Bool) → not b ≡ false → b ≡ true
passes true e = refl
passes false e = sym e

-- where a list is parted by a test, there the first element stands that the test takes
pub parted_at : {X : Type 0} (p : X → Bool) (xs : List X) (i : ℕ) → i ≤ length xs
    → IsPartitionPoint (λ y. not (p y) ≡ true) (λ y. not (p y) ≡ false) xs i → position_or_len p xs ≡ i
parted_at p [] i le point = omega arith
parted_at p (x ∷ xs) i le point =
    position_or_len_is p (x ∷ xs) i x le
    (λ k before. fails _ (point.0 k x (omega arith) before))
    (λ inside. passes _ (point.1 i x (omega arith) inside))
