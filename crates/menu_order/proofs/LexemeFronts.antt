-- The longest front of a text that passes a test, and what it leaves.
use Rattle.std.proofs.Common.{◌≡◌, ℕ, ◌+◌, Bool, true, false, List, [], ◌∷◌, drop, ap, ◌∙◌, arith, suc}
use Rattle.std.proofs.lemmas.Bool.{cond-true, cond-false}
use Rattle.std.proofs.lemmas.List.Sums.{take_while-cons}
use Rattle.std.specs.List.{prefix_len, take_while}

-- what the longest front of passing bytes leaves
abbrev pub skip : (ℕ → Bool) → List ℕ → List ℕ
skip p text = drop (prefix_len p text) text

-- the longest front and what it leaves, where the first byte passes, and where it doesn't
pub take_while-yes : (p : ℕ → Bool) (b : ℕ) (bs : List ℕ) → p b ≡ true → take_while p (b ∷ bs) ≡ b ∷ take_while p bs
take_while-yes p b bs e = take_while-cons p b bs ∙ cond-true (p b) _ _ e

pub take_while-no : (p : ℕ → Bool) (b : ℕ) (bs : List ℕ) → p b ≡ false → take_while p (b ∷ bs) ≡ []
take_while-no p b bs e = take_while-cons p b bs ∙ cond-false (p b) _ _ e

pub skip-yes : (p : ℕ → Bool) (b : ℕ) (bs : List ℕ) → p b ≡ true → skip p (b ∷ bs) ≡ skip p bs
skip-yes p b bs e =
    let more : 1 + prefix_len p bs ≡ suc (prefix_len p bs) = omega arith in
    ap (λ n. drop n (b ∷ bs)) (cond-true (p b) _ _ e ∙ more)

pub skip-no : (p : ℕ → Bool) (b : ℕ) (bs : List ℕ) → p b ≡ false → skip p (b ∷ bs) ≡ b ∷ bs
skip-no p b bs e = ap (λ n. drop n (b ∷ bs)) (cond-false (p b) _ _ e)
