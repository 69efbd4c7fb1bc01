-- The bytes from a place up to another, piece by piece.
use Rattle.std.proofs.Common.{◌≡◌, inl, inr, ◌<◌, ◌≤◌, ◌+◌, ◌-◌, ℕ, List, [], ◌++◌, length, take, drop, sym, ap, ◌∙◌, arith, append_assoc, length-drop, replicate}
use Rattle.std.proofs.Math.Seq.{take-add}
use Rattle.std.proofs.lemmas.Bool.{cases_lt}
use Rattle.std.proofs.lemmas.List.{take_all, drop_all, replicate-append-replicate}
use Rattle.boot_machine.specs.Prelude.{bytes_between, fill_with_zeros}
use Rattle.boot_machine.proofs.Filling.{fill_with_zeros-inside}

inside_add : (xs : List ℕ) (a b : ℕ) → a ≤ length xs → fill_with_zeros xs (a + b) ≡ fill_with_zeros xs a ++ fill_with_zeros (drop a xs) b
inside_add xs a b le =
    let rest : a + b - length xs ≡ b - length (drop a xs) = omega (arith, length-drop a xs) in
    ap (λ (l : List ℕ). l ++ replicate (a + b - length xs) 0) (take-add a b xs)
    ∙ ap (λ (n : ℕ). (take a xs ++ take b (drop a xs)) ++ replicate n 0) rest
    ∙ append_assoc (take a xs) (take b (drop a xs)) _
    ∙ ap (λ (l : List ℕ). l ++ fill_with_zeros (drop a xs) b) (sym (fill_with_zeros-inside xs a le))

past_add : (xs : List ℕ) (a b : ℕ) → length xs < a → fill_with_zeros xs (a + b) ≡ fill_with_zeros xs a ++ fill_with_zeros (drop a xs) b
past_add xs a b lt =
    let rest : a + b - length xs ≡ a - length xs + b = omega arith in
    let none : drop a xs ≡ [] = drop_all a xs (omega arith) in
    let all : b - 0 ≡ b = omega arith in
    let zeros : fill_with_zeros [] b ≡ replicate b 0 = ap (λ (l : List ℕ). l ++ replicate (b - 0) 0) (take_all b [] (omega arith)) ∙ ap (λ (n : ℕ). replicate n 0) all in
    ap (λ (l : List ℕ). l ++ replicate (a + b - length xs) 0) (take_all (a + b) xs (omega arith) ∙ sym (take_all a xs (omega arith)))
    ∙ ap (λ (n : ℕ). take a xs ++ replicate n 0) rest
    ∙ ap (λ (l : List ℕ). take a xs ++ l) (sym (replicate-append-replicate (a - length xs) b 0))
    ∙ sym (append_assoc (take a xs) (replicate (a - length xs) 0) (replicate b 0))
    ∙ ap (λ (l : List ℕ). fill_with_zeros xs a ++ l) (sym (ap (λ (l : List ℕ). fill_with_zeros l b) none ∙ zeros))

-- bytes in two pieces
pub fill_with_zeros-add : (xs : List ℕ) (a b : ℕ) → fill_with_zeros xs (a + b) ≡ fill_with_zeros xs a ++ fill_with_zeros (drop a xs) b
fill_with_zeros-add xs a b = elim (cases_lt (length xs) a) [ inl lt ↦ past_add xs a b lt | inr le ↦ inside_add xs a b le ]

-- all of a file
pub between_whole : (file : List ℕ) (size : ℕ) → size ≡ length file → bytes_between file 0 size ≡ file
between_whole file size long =
    let all : size - 0 ≡ size = omega arith in
    ap (fill_with_zeros file) all ∙ fill_with_zeros-inside file size (omega (arith, long)) ∙ take_all size file (omega (arith, long))
