-- A line is read as what the grammar has it mean, in both directions.
use Rattle.std.proofs.Common.{◌≡◌, ◌≢◌, ℕ, suc, Bool, true, false, not, ◌||◌, eqb, List, [], ◌∷◌, ◌++◌, Some, None, Option, length, take, drop, subst, sym, ap, ◌∙◌, refl, cond, arith, ◌⊎◌, inl, inr, take-append-drop, take_at, drop_at}
use Rattle.std.specs.List.{list_all, prefix_len}
use Rattle.std.proofs.lemmas.Bool.{not-true, and_parts, both_ways, eqb-false, ne_eqb, or_parts}
use Rattle.std.proofs.lemmas.Option.{none-some, same_Some}
use Rattle.boot_texts.specs.TextRuns.{BeginsWith}
use Rattle.boot_texts.specs.KeyValues.{Pair}
use Rattle.boot_texts.proofs.LineFronts.{list_all-front, prefix_len-front, rest_cases}
use Rattle.boot_texts.specs.EntryLines.{EntryLine, entry_reading, is_gap, is_not_gap}

-- a key and a value, where both are there
abbrev both : List ℕ → List ℕ → Option Pair
both k v = cond {A = Option Pair} (eqb (length k) 0 || eqb (length v) 0) None (Some (k, v))

none_or_some : {A : Type 0} (b : Bool) (x y : A) → cond b None (Some x) ≡ Some y → (b ≡ false) × (x ≡ y)
none_or_some true x y e = absurd (none-some y e)
none_or_some false x y e = (refl, same_Some x y e)

both_there : (k v key value : List ℕ) → both k v ≡ Some (key, value) → (k ≢ []) × (v ≢ []) × (k ≡ key) × (v ≡ value)
both_there k v key value read =
    let pair : Pair = (k, v) in
    let found : Pair = (key, value) in
    let is = none_or_some (eqb (length k) 0 || eqb (length v) 0) pair found read in
    let tests = or_parts (eqb (length k) 0) (eqb (length v) 0) is.0 in
    ((λ e. eqb-false (length k) 0 tests.0 (ap length e)), (λ e. eqb-false (length v) 0 tests.1 (ap length e)), ap (λ (p : Pair). p.0) is.1, ap (λ (p : Pair). p.1) is.1)

has_length : (xs : List ℕ) → xs ≢ [] → eqb (length xs) 0 ≡ false
has_length [] is = absurd (is refl)
has_length (x ∷ xs) is = ne_eqb (suc (length xs)) 0 (λ e. absurd (omega (arith, e)))

both-some : (k v : List ℕ) → k ≢ [] → v ≢ [] → both k v ≡ Some (k, v)
both-some k v k_is v_is = let key = has_length k k_is in let value = has_length v v_is in rw (key, value) refl

begins_twice : (test : ℕ → Bool) (xs : List ℕ) → BeginsWith (λ x. not (not (test x))) xs → BeginsWith (λ x. not (test x)) xs → ⊥
begins_twice test [] one other = one
begins_twice test (x ∷ xs) one other = both_ways (not (test x)) (not-true (not (test x)) one) other

begins_there : (test : ℕ → Bool) (xs : List ℕ) → BeginsWith test xs → xs ≢ []
begins_there test [] begins e = begins
begins_there test (x ∷ xs) begins e = cc

begins_all : (test : ℕ → Bool) (xs ys : List ℕ) → list_all test xs ≡ true → xs ≢ [] → BeginsWith (λ x. not (not (test x))) (xs ++ ys)
begins_all test [] ys passes is = absurd (is refl)
begins_all test (x ∷ xs) ys passes is = rw (and_parts (test x) (list_all test xs) passes).0 refl

not_empty : (test : ℕ → Bool) (xs : List ℕ) → (xs ≡ []) ⊎ BeginsWith test xs → xs ≢ [] → BeginsWith test xs
not_empty test xs (inl e) is = absurd (is e)
not_empty test xs (inr begins) is = begins

pub sound : (line : List ℕ) (pair : Pair) → entry_reading line ≡ Some pair → EntryLine line pair.0 pair.1
sound line pair read =
    let n = prefix_len is_not_gap line in
    let rest = drop n line in
    let m = prefix_len is_gap rest in
    let is = both_there (take n line) (drop m rest) pair.0 pair.1 read in
    let rest_is : rest ≡ take m rest ++ drop m rest = sym (take-append-drop m rest) in
    let value_begins : BeginsWith is_not_gap (drop m rest) = not_empty is_not_gap (drop m rest) (rest_cases is_gap rest) is.1 in
    let whole : take m rest ≡ [] → rest ≡ drop m rest = λ (none : take m rest ≡ []). rest_is ∙ ap (λ (gap : List ℕ). gap ++ drop m rest) none in
    record {
      gap = take m rest;
      parts = sym (take-append-drop n line) ∙ ap (λ (behind : List ℕ). take n line ++ behind) rest_is
          ∙ ap (λ (key : List ℕ). key ++ (take m rest ++ drop m rest)) is.2 ∙ ap (λ (value : List ℕ). pair.0 ++ (take m rest ++ value)) is.3;
      key_is_there = λ none. is.0 (is.2 ∙ none);
      key_has_no_gap = subst (λ (key : List ℕ). list_all is_not_gap key ≡ true) is.2 (list_all-front is_not_gap line);
      gap_is_there = λ none. begins_twice is_gap rest
          (not_empty (λ x. not (is_not_gap x)) rest (rest_cases is_not_gap line) (λ empty. is.1 (sym (whole none) ∙ empty)))
          (subst (λ (xs : List ℕ). BeginsWith is_not_gap xs) (sym (whole none)) value_begins);
      gap_is_blank = list_all-front is_gap rest;
      value_begins = subst (λ (value : List ℕ). BeginsWith is_not_gap value) is.3 value_begins;
    }

again : (key gap value : List ℕ) → key ≢ [] → list_all is_not_gap key ≡ true → gap ≢ [] → list_all is_gap gap ≡ true → BeginsWith is_not_gap value
    → entry_reading (key ++ (gap ++ value)) ≡ Some (key, value)
again key gap value key_is key_bytes gap_is gap_bytes value_begins =
    let line = key ++ (gap ++ value) in
    let n = prefix_len is_not_gap line in
    let n_is : n ≡ length key = prefix_len-front is_not_gap key (gap ++ value) key_bytes (begins_all is_gap gap value gap_bytes gap_is) in
    let m_is : prefix_len is_gap (gap ++ value) ≡ length gap = prefix_len-front is_gap gap value gap_bytes value_begins in
    let key_is_front : take n line ≡ key = ap (λ (n : ℕ). take n line) n_is ∙ take_at key (gap ++ value) (length key) refl in
    let rest_is : drop n line ≡ gap ++ value = ap (λ (n : ℕ). drop n line) n_is ∙ drop_at key (gap ++ value) (length key) refl in
    let value_is : drop (prefix_len is_gap (drop n line)) (drop n line) ≡ value =
    ap (λ (rest : List ℕ). drop (prefix_len is_gap rest) rest) rest_is ∙ ap (λ (m : ℕ). drop m (gap ++ value)) m_is ∙ drop_at gap value (length gap) refl in
    ap (λ (k : List ℕ). both k (drop (prefix_len is_gap (drop n line)) (drop n line))) key_is_front
    ∙ ap (both key) value_is
    ∙ both-some key value key_is (begins_there is_not_gap value value_begins)

pub complete : (line : List ℕ) (pair : Pair) → EntryLine line pair.0 pair.1 → entry_reading line ≡ Some pair
complete line pair given =
    ap entry_reading given.parts
    ∙ again pair.0 given.gap pair.1 given.key_is_there given.key_has_no_gap given.gap_is_there given.gap_is_blank given.value_begins
