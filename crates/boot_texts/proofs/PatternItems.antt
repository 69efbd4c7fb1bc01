-- The first item of a pattern is read as what it is written as, in both directions.
use Rattle.std.proofs.Common.{◌≡◌, ◌+◌, ℕ, suc, Bool, true, false, not, ◌||◌, ◌&&◌, eqb, List, [], ◌∷◌, ◌++◌, Some, None, Option, length, take, drop, subst, sym, ap, ◌∙◌, refl, cond, arith, ◌⊎◌, inl, inr, append_assoc, length-append, take_at, drop_at}
use Rattle.std.specs.List.{list_all, prefix_len}
use Rattle.std.proofs.lemmas.Bool.{not-true, and_from, and_parts, eqb-false, eqb-true, ne_eqb, or_parts, not_from_false}
use Rattle.std.proofs.lemmas.Option.{none-some, some_pair_parts}
use Rattle.boot_texts.proofs.LineFronts.{prefix_len-front}
use Rattle.boot_texts.specs.PatternItems.{item_reading, set_reading, escape_reading}
use Rattle.boot_texts.specs.Patterns.{PatternItem, any_run, any_byte, set, escape, plain, is_inside_set, is_pattern_item, stands_for_itself, item_bytes}

-- ---- sets

has_length : (x : ℕ) (xs : List ℕ) → eqb (length (x ∷ xs)) 0 ≡ false
has_length x xs = ne_eqb (suc (length xs)) 0 (λ e. absurd (omega (arith, e)))

pub set_complete : (between rest : List ℕ) → is_pattern_item (set between) ≡ true → set_reading (between ++ 93 ∷ rest) ≡ Some (set between, rest)
set_complete between rest is =
    let parts = and_parts (not (eqb (length between) 0)) (list_all is_inside_set between) is in
    let n = prefix_len is_inside_set (between ++ 93 ∷ rest) in
    let n_is : n ≡ length between = prefix_len-front is_inside_set between (93 ∷ rest) parts.1 refl in
    let some : eqb n 0 ≡ false = ap (λ (n : ℕ). eqb n 0) n_is ∙ not-true (eqb (length between) 0) parts.0 in
    let whole : length (between ++ 93 ∷ rest) ≡ length between + suc (length rest) = length-append between (93 ∷ rest) in
    let within : eqb n (length (between ++ 93 ∷ rest)) ≡ false = ne_eqb n (length (between ++ 93 ∷ rest)) (λ e. absurd (omega (arith, e, n_is, whole))) in
    let front : take n (between ++ 93 ∷ rest) ≡ between = ap (λ (n : ℕ). take n (between ++ 93 ∷ rest)) n_is ∙ take_at between (93 ∷ rest) (length between) refl in
    let more : n + 1 ≡ length (between ++ 93 ∷ []) = omega (arith, n_is, length-append between (93 ∷ [])) in
    let back : drop (n + 1) (between ++ 93 ∷ rest) ≡ rest =
    ap (λ (text : List ℕ). drop (n + 1) text) (sym (append_assoc between (93 ∷ []) rest)) ∙ drop_at (between ++ 93 ∷ []) rest (n + 1) (sym more) in
    rw (some, within) (ap (λ (found : List ℕ). Some (set found, drop (n + 1) (between ++ 93 ∷ rest))) front ∙ ap (λ (found : List ℕ). Some (set between, found)) back)

-- a text without `]`, or what stands before the first one and behind it
cut : (text : List ℕ) → (prefix_len is_inside_set text ≡ length text) ⊎ ((front : List ℕ) × (back : List ℕ) × (text ≡ front ++ 93 ∷ back) × (list_all is_inside_set front ≡ true))
cut [] = inl refl
cut (x ∷ xs) = by_test (eqb x 93) refl (cut xs)
  where
    by_test : (b : Bool) → eqb x 93 ≡ b → (prefix_len is_inside_set xs ≡ length xs) ⊎ ((front : List ℕ) × (back : List ℕ) × (xs ≡ front ++ 93 ∷ back) × (list_all is_inside_set front ≡ true))
        → (prefix_len is_inside_set (x ∷ xs) ≡ length (x ∷ xs)) ⊎ ((front : List ℕ) × (back : List ℕ) × (x ∷ xs ≡ front ++ 93 ∷ back) × (list_all is_inside_set front ≡ true))
    by_test true e behind = inr ([], xs, ap (λ (b : ℕ). b ∷ xs) (eqb-true x 93 e), refl)
    by_test false e (inl none) = inl (rw e (omega (arith, none)))
    by_test false e (inr found) = inr (x ∷ found.0, found.1, ap (λ (rest : List ℕ). x ∷ rest) found.2, rw e found.3)

set_found : (front back : List ℕ) → list_all is_inside_set front ≡ true → (item : PatternItem) (rest : List ℕ)
    → set_reading (front ++ 93 ∷ back) ≡ Some (item, rest) → (is_pattern_item item ≡ true) × (91 ∷ (front ++ 93 ∷ back) ≡ item_bytes item ++ rest)
set_found [] back all item rest read = absurd (none-some (item, rest) read)
set_found (f ∷ fs) back all item rest read =
    let is : is_pattern_item (set (f ∷ fs)) ≡ true = and_from (not (eqb (length (f ∷ fs)) 0)) (list_all is_inside_set (f ∷ fs)) (not_from_false (eqb (length (f ∷ fs)) 0) (has_length f fs)) all in
    let same = some_pair_parts (set (f ∷ fs)) item back rest (sym (set_complete (f ∷ fs) back is) ∙ read) in
    let whole : 91 ∷ ((f ∷ fs) ++ 93 ∷ back) ≡ item_bytes (set (f ∷ fs)) ++ back = ap (λ (text : List ℕ). 91 ∷ text) (sym (append_assoc (f ∷ fs) (93 ∷ []) back)) in
    (subst (λ (i : PatternItem). is_pattern_item i ≡ true) same.0 is, whole ∙ ap (λ (i : PatternItem). item_bytes i ++ back) same.0 ∙ ap (λ (xs : List ℕ). item_bytes item ++ xs) same.1)

none_or_some : {A : Type 0} (b : Bool) (x y : A) → cond b None (Some x) ≡ Some y → b ≡ false
none_or_some true x y e = absurd (none-some y e)
none_or_some false x y e = refl

set_sound : (text : List ℕ) (item : PatternItem) (rest : List ℕ) → set_reading text ≡ Some (item, rest) → (is_pattern_item item ≡ true) × (91 ∷ text ≡ item_bytes item ++ rest)
set_sound text item rest read = by_cut (cut text)
  where
    by_cut : (prefix_len is_inside_set text ≡ length text) ⊎ ((front : List ℕ) × (back : List ℕ) × (text ≡ front ++ 93 ∷ back) × (list_all is_inside_set front ≡ true))
        → (is_pattern_item item ≡ true) × (91 ∷ text ≡ item_bytes item ++ rest)
    by_cut (inl none) =
        let n = prefix_len is_inside_set text in
        let pair : PatternItem × List ℕ = (set (take n text), drop (n + 1) text) in
        let found : PatternItem × List ℕ = (item, rest) in
        let tests = or_parts (eqb n 0) (eqb n (length text)) (none_or_some (eqb n 0 || eqb n (length text)) pair found read) in
        absurd (eqb-false n (length text) tests.1 none)
    by_cut (inr found) =
        let is = set_found found.0 found.1 found.3 item rest (sym (ap set_reading found.2) ∙ read) in
        (is.0, ap (λ (text : List ℕ). 91 ∷ text) found.2 ∙ is.1)

-- ---- any item

pub first_complete : (item : PatternItem) (rest : List ℕ) → is_pattern_item item ≡ true → item_reading (item_bytes item ++ rest) ≡ Some (item, rest)
first_complete any_run rest is = refl
first_complete any_byte rest is = refl
first_complete (set between) rest is = ap set_reading (append_assoc between (93 ∷ []) rest) ∙ set_complete between rest is
first_complete (escape byte) rest is = refl
first_complete (plain byte) rest is =
    let last = and_parts (not (eqb byte 42) && not (eqb byte 63) && not (eqb byte 91)) (not (eqb byte 92)) is in
    let sets = and_parts (not (eqb byte 42) && not (eqb byte 63)) (not (eqb byte 91)) last.0 in
    let run = and_parts (not (eqb byte 42)) (not (eqb byte 63)) sets.0 in
    rw (not-true (eqb byte 42) run.0, not-true (eqb byte 63) run.1, not-true (eqb byte 91) sets.1, not-true (eqb byte 92) last.1) refl

-- an item that is there
given : (front : PatternItem) (behind : List ℕ) → is_pattern_item front ≡ true → (item : PatternItem) (rest : List ℕ) → ◌≡◌ {A = Option (PatternItem × List ℕ)} (Some (front, behind)) (Some (item, rest)) → (is_pattern_item item ≡ true) × (item_bytes front ++ behind ≡ item_bytes item ++ rest)
given front behind is item rest read =
    let same = some_pair_parts front item behind rest read in
    (subst (λ (i : PatternItem). is_pattern_item i ≡ true) same.0 is, ap (λ (i : PatternItem). item_bytes i ++ behind) same.0 ∙ ap (λ (xs : List ℕ). item_bytes item ++ xs) same.1)

escaped_sound : (text : List ℕ) (item : PatternItem) (rest : List ℕ) → escape_reading text ≡ Some (item, rest) → (is_pattern_item item ≡ true) × (92 ∷ text ≡ item_bytes item ++ rest)
escaped_sound [] item rest read = absurd (none-some (item, rest) read)
escaped_sound (byte ∷ text) item rest read = given (escape byte) text refl item rest read

module _ (byte : ℕ) (text : List ℕ) (item : PatternItem) (rest : List ℕ) where
  abbrev Sound : Type 0
  Sound = (is_pattern_item item ≡ true) × (byte ∷ text ≡ item_bytes item ++ rest)

  sound_at : (n : ℕ) → eqb byte n ≡ true → (is_pattern_item item ≡ true) × (n ∷ text ≡ item_bytes item ++ rest) → Sound
  sound_at n e is = (is.0, ap (λ (b : ℕ). b ∷ text) (eqb-true byte n e) ∙ is.1)

  sound_plain : eqb byte 42 ≡ false → eqb byte 63 ≡ false → eqb byte 91 ≡ false → (t : Bool) → eqb byte 92 ≡ t
      → cond t (escape_reading text) (Some (plain byte, text)) ≡ Some (item, rest) → Sound
  sound_plain run single sets true e read = sound_at 92 e (escaped_sound text item rest read)
  sound_plain run single sets false e read =
      let is : stands_for_itself byte ≡ true = rw (run, single, sets, e) refl in
      given (plain byte) text is item rest read

  sound_set : eqb byte 42 ≡ false → eqb byte 63 ≡ false → (t : Bool) → eqb byte 91 ≡ t
      → cond t (set_reading text) (cond (eqb byte 92) (escape_reading text) (Some (plain byte, text))) ≡ Some (item, rest) → Sound
  sound_set run single true e read = sound_at 91 e (set_sound text item rest read)
  sound_set run single false e read = sound_plain run single e (eqb byte 92) refl read

  sound_one : eqb byte 42 ≡ false → (t : Bool) → eqb byte 63 ≡ t
      → cond t (Some (any_byte, text)) (cond (eqb byte 91) (set_reading text) (cond (eqb byte 92) (escape_reading text) (Some (plain byte, text)))) ≡ Some (item, rest) → Sound
  sound_one run true e read = sound_at 63 e (given any_byte text refl item rest read)
  sound_one run false e read = sound_set run e (eqb byte 91) refl read

  sound_run : (t : Bool) → eqb byte 42 ≡ t
      → cond t (Some (any_run, text)) (cond (eqb byte 63) (Some (any_byte, text)) (cond (eqb byte 91) (set_reading text) (cond (eqb byte 92) (escape_reading text) (Some (plain byte, text))))) ≡ Some (item, rest) → Sound
  sound_run true e read = sound_at 42 e (given any_run text refl item rest read)
  sound_run false e read = sound_one e (eqb byte 63) refl read

pub first_sound : (pattern : List ℕ) (item : PatternItem) (rest : List ℕ) → item_reading pattern ≡ Some (item, rest) → (is_pattern_item item ≡ true) × (pattern ≡ item_bytes item ++ rest)
first_sound [] item rest read = absurd (none-some (item, rest) read)
first_sound (byte ∷ text) item rest read = sound_run byte text item rest (eqb byte 42) refl read
