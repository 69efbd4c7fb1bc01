-- Bytes that are written in pieces.
use Rattle.std.proofs.Common.{◌≡◌, ℕ, ◌-◌, List, ◌++◌, length, take, drop, sym, ap, ◌∙◌, append_assoc, take-append-drop}
use Rattle.std.proofs.lemmas.List.{take_rest}

-- some of the rest go to what was written
pub moved_on : (all start rest : List ℕ) (n : ℕ) → all ≡ start ++ rest
    → all ≡ (start ++ take n rest) ++ take (length rest - n) (drop n rest)
moved_on all start rest n split =
    split ∙ ap (λ l. start ++ l) (sym (take-append-drop n rest)) ∙ sym (append_assoc start (take n rest) (drop n rest))
    ∙ ap (λ l. (start ++ take n rest) ++ l) (sym (take_rest rest n))
