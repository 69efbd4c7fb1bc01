-- A value is read as what is written stands for, in both directions.
use Rattle.std.proofs.Common.{◌≡◌, ◌<◌, ◌+◌, ℕ, Bool, true, false, ◌||◌, eqb, List, [], ◌∷◌, ◌++◌, Some, None, length, take, drop, get_or, subst, sym, ap, ◌∙◌, refl, cond, arith, length-append}
use Rattle.std.specs.List.{before_first, flat_map, list_all, position_or_len}
use Rattle.std.proofs.lemmas.List.{drop_all, take_at}
use Rattle.std.proofs.lemmas.List.Sums.{passes_at_first, split_at_first}
use Rattle.std.proofs.lemmas.Bool.{and_parts, cond-false, cond-true, eqb-true, eq-eqb, not-true, or_parts}
use Rattle.std.proofs.lemmas.Option.{cond_some, none-some, same_Some}
use Rattle.boot_texts.proofs.LineFronts.{list_all-front, prefix_len-front}
use Rattle.boot_texts.proofs.OsDoubles.{double_complete, double_sound}
use Rattle.boot_texts.specs.OsLines.{IsWritten, bare, double, double_reading, is_bare, is_not_single, nothing, piece_text, single, single_reading, value_reading}

-- ---- single quotes

single_complete : (value : List ℕ) → list_all is_not_single value ≡ true → single_reading (value ++ 39 ∷ []) ≡ Some value
single_complete value are =
    let text = value ++ 39 ∷ [] in
    let end : position_or_len (λ byte. eqb byte 39) text ≡ length value = prefix_len-front is_not_single value (39 ∷ []) are refl in
    let whole : position_or_len (λ byte. eqb byte 39) text + 1 ≡ length text = omega (arith, length-append value (39 ∷ [])) in
    cond-true (eqb (position_or_len (λ byte. eqb byte 39) text + 1) (length text)) (Some (before_first (λ byte. eqb byte 39) text)) None (eq-eqb (position_or_len (λ byte. eqb byte 39) text + 1) (length text) whole)
    ∙ ap (λ (n : ℕ). Some (take n text)) end
    ∙ ap Some (take_at value (39 ∷ []) (length value) refl)

single_sound : (text value : List ℕ) → single_reading text ≡ Some value → (list_all is_not_single value ≡ true) × (text ≡ value ++ 39 ∷ [])
single_sound text value read =
    let quote : ℕ → Bool = λ (byte : ℕ). eqb byte 39 in
    let end = position_or_len (λ byte. eqb byte 39) text in
    let is = cond_some (eqb (end + 1) (length text)) (before_first (λ byte. eqb byte 39) text) value read in
    let last : end + 1 ≡ length text = eqb-true (end + 1) (length text) is.0 in
    let below : end < length text = omega (arith, last) in
    let closing : get_or text end 0 ≡ 39 = eqb-true (get_or text end 0) 39 (passes_at_first (λ byte. eqb byte 39) text 0 below) in
    let rest : drop (end + 1) text ≡ [] = drop_all (end + 1) text (omega (arith, last)) in (
      subst (λ (front : List ℕ). list_all is_not_single front ≡ true) is.1 (list_all-front is_not_single text),
      split_at_first (λ byte. eqb byte 39) text 0 below
          ∙ ap (λ (front : List ℕ). front ++ (get_or text end 0 ∷ drop (end + 1) text)) is.1
          ∙ ap (λ (byte : ℕ). value ++ (byte ∷ drop (end + 1) text)) closing
          ∙ ap (λ (rest : List ℕ). value ++ (39 ∷ rest)) rest,
    )

-- ---- each form

by_first : (first : ℕ) (rest value : List ℕ) → value_reading (first ∷ rest) ≡ Some value → IsWritten (first ∷ rest) value
by_first first rest value read = by_single (eqb first 39) refl read
  where
    by_bare : (t : Bool) → list_all is_bare (first ∷ rest) ≡ t → cond t (Some (first ∷ rest)) None ≡ Some value → IsWritten (first ∷ rest) value
    by_bare true are read = bare are (sym (same_Some (first ∷ rest) value read))
    by_bare false are read = absurd (none-some value read)

    by_double : (t : Bool) → eqb first 34 ≡ t → cond t (double_reading rest) (cond (list_all is_bare (first ∷ rest)) (Some (first ∷ rest)) None) ≡ Some value → IsWritten (first ∷ rest) value
    by_double true quote read =
        let closed = double_sound rest value read in
        double (flat_map piece_text closed.pieces)
        (ap (λ (byte : ℕ). byte ∷ rest) (eqb-true first 34 quote) ∙ ap (λ (rest : List ℕ). 34 ∷ rest) closed.text_is)
        (record { pieces = closed.pieces; are_pieces = closed.are_pieces; text_is = refl; value_is = closed.value_is })
    by_double false quote read = by_bare (list_all is_bare (first ∷ rest)) refl read

    by_single : (t : Bool) → eqb first 39 ≡ t
        → cond t (single_reading rest) (cond (eqb first 34) (double_reading rest) (cond (list_all is_bare (first ∷ rest)) (Some (first ∷ rest)) None)) ≡ Some value
        → IsWritten (first ∷ rest) value
    by_single true quote read =
        let is = single_sound rest value read in
        single is.0 (ap (λ (byte : ℕ). byte ∷ rest) (eqb-true first 39 quote) ∙ ap (λ (rest : List ℕ). 39 ∷ rest) is.1)
    by_single false quote read = by_double (eqb first 34) refl read

pub value_sound : (text value : List ℕ) → value_reading text ≡ Some value → IsWritten text value
value_sound [] value read = nothing refl (sym (same_Some [] value read))
value_sound (first ∷ rest) value read = by_first first rest value read

bare_complete : (text : List ℕ) → list_all is_bare text ≡ true → value_reading text ≡ Some text
bare_complete [] are = refl
bare_complete (first ∷ rest) are =
    let parts = and_parts (is_bare first) (list_all is_bare rest) are in
    let backquote = or_parts (((((eqb first 32 || eqb first 9) || eqb first 34) || eqb first 39) || eqb first 92) || eqb first 36) (eqb first 96) (not-true (((((((eqb first 32 || eqb first 9) || eqb first 34) || eqb first 39) || eqb first 92) || eqb first 36) || eqb first 96)) parts.0) in
    let dollar = or_parts ((((eqb first 32 || eqb first 9) || eqb first 34) || eqb first 39) || eqb first 92) (eqb first 36) backquote.0 in
    let backslash = or_parts (((eqb first 32 || eqb first 9) || eqb first 34) || eqb first 39) (eqb first 92) dollar.0 in
    let quote = or_parts ((eqb first 32 || eqb first 9) || eqb first 34) (eqb first 39) backslash.0 in
    let double_quote = or_parts (eqb first 32 || eqb first 9) (eqb first 34) quote.0 in
    cond-false (eqb first 39) (single_reading rest) (cond (eqb first 34) (double_reading rest) (cond (list_all is_bare (first ∷ rest)) (Some (first ∷ rest)) None)) quote.1
    ∙ cond-false (eqb first 34) (double_reading rest) (cond (list_all is_bare (first ∷ rest)) (Some (first ∷ rest)) None) double_quote.1
    ∙ cond-true (list_all is_bare (first ∷ rest)) (Some (first ∷ rest)) None are

pub value_complete : (text value : List ℕ) → IsWritten text value → value_reading text ≡ Some value
value_complete text value (nothing text_is value_is) = ap value_reading text_is ∙ ap Some (sym value_is)
value_complete text value (bare are value_is) = bare_complete text are ∙ ap Some (sym value_is)
value_complete text value (single are text_is) = ap value_reading text_is ∙ single_complete value are
value_complete text value (double between text_is is) = ap value_reading text_is ∙ double_complete between value is
