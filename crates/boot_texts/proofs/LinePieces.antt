-- The first piece of a text, and what is left.
use Rattle.std.proofs.Common.{◌≡◌, ◌≤◌, ◌+◌, ◌-◌, ℕ, Bool, true, false, List, [], ◌∷◌, Some, None, length, take, drop, subst, sym, ap, ◌∙◌, refl, arith, ltb, cond, ltb-true, ltb-false}
use Rattle.std.specs.List.{slice_split, position, position_or_len}
use Rattle.std.proofs.lemmas.List.{take_rest}
use Rattle.std.proofs.lemmas.List.Splits.{slice_split_first, slice_split_none}
use Rattle.std.proofs.lemmas.List.Sums.{fails_before_first}
use Rattle.std.proofs.lemmas.Option.{cond_some}
use Rattle.boot_texts.specs.TextLines.{is_newline}

pub pieces_at : (text : List ℕ) (end : ℕ) → Some end ≡ position is_newline text
    → slice_split is_newline text ≡ take end text ∷ slice_split is_newline (take (length text - (end + 1)) (drop (end + 1) text))
pieces_at text end found =
    let at = position_or_len is_newline text in
    let is = cond_some (ltb at (length text)) at end (sym found) in
    let here : slice_split is_newline text ≡ take end text ∷ slice_split is_newline (drop (end + 1) text) =
    subst (λ (n : ℕ). slice_split is_newline text ≡ take n text ∷ slice_split is_newline (drop (n + 1) text)) is.1 (slice_split_first is_newline text 0 (ltb-true at (length text) is.0)) in
    here ∙ ap (λ rest. take end text ∷ slice_split is_newline rest) (sym (take_rest text (end + 1)))

none_found : (b : Bool) (n : ℕ) → None ≡ cond b (Some n) None → b ≡ false
none_found true n h = cc
none_found false n h = refl

pub pieces_none : (text : List ℕ) → None ≡ position is_newline text → slice_split is_newline text ≡ text ∷ []
pieces_none text none =
    let at = position_or_len is_newline text in
    let past : length text ≤ at = ltb-false at (length text) (none_found (ltb at (length text)) at none) in
    slice_split_none is_newline text (λ k d below. fails_before_first is_newline text k d (omega arith))
