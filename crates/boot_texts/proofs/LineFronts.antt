-- The longest front of a list whose elements pass a test.
use Rattle.std.proofs.Common.{◌≡◌, ◌+◌, ℕ, suc, Bool, true, false, not, List, [], ◌∷◌, ◌++◌, length, take, drop, refl, ap, ◌∙◌, cond, inl, inr, ◌⊎◌, arith}
use Rattle.std.specs.List.{list_all, prefix_len}
use Rattle.std.proofs.lemmas.Bool.{and_parts, not-true}
use Rattle.boot_texts.specs.TextRuns.{BeginsWith}

-- each element of the front passes
pub list_all-front : (test : ℕ → Bool) (xs : List ℕ) → list_all test (take (prefix_len test xs) xs) ≡ true
list_all-front test [] = refl
list_all-front test (x ∷ xs) = by_test (list_all-front test xs) (test x) refl
  where
    by_test : list_all test (take (prefix_len test xs) xs) ≡ true → (b : Bool) → test x ≡ b → list_all test (take (cond (test x) (1 + prefix_len test xs) 0) (x ∷ xs)) ≡ true
    by_test behind true e =
        let next : 1 + prefix_len test xs ≡ suc (prefix_len test xs) = omega arith in
        rw (e, next) (rw e behind)
    by_test behind false e = rw e refl

-- what is left is empty, or begins with an element that doesn't pass
pub rest_cases : (test : ℕ → Bool) (xs : List ℕ) → (drop (prefix_len test xs) xs ≡ []) ⊎ BeginsWith (λ x. not (test x)) (drop (prefix_len test xs) xs)
rest_cases test [] = inl refl
rest_cases test (x ∷ xs) = by_test (rest_cases test xs) (test x) refl
  where
    by_test : (drop (prefix_len test xs) xs ≡ []) ⊎ BeginsWith (λ x. not (test x)) (drop (prefix_len test xs) xs) → (b : Bool) → test x ≡ b
        → (drop (cond (test x) (1 + prefix_len test xs) 0) (x ∷ xs) ≡ []) ⊎ BeginsWith (λ x. not (test x)) (drop (cond (test x) (1 + prefix_len test xs) 0) (x ∷ xs))
    by_test behind true e =
        let next : 1 + prefix_len test xs ≡ suc (prefix_len test xs) = omega arith in
        rw (e, next) behind
    by_test behind false e = rw e (inr (rw e refl))

-- the front ends where an element doesn't pass
pub prefix_len-front : (test : ℕ → Bool) (front rest : List ℕ) → list_all test front ≡ true → BeginsWith (λ x. not (test x)) rest → prefix_len test (front ++ rest) ≡ length front
prefix_len-front test [] [] passes begins = absurd begins
prefix_len-front test [] (y ∷ rest) passes begins = rw (not-true (test y) begins) refl
prefix_len-front test (x ∷ front) rest passes begins =
    let parts = and_parts (test x) (list_all test front) passes in
    let next : 1 + length front ≡ suc (length front) = omega arith in
    rw parts.0 (ap (λ (n : ℕ). 1 + n) (prefix_len-front test front rest parts.1 begins) ∙ next)
