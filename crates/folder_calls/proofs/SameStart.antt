-- Two files that are compared piece by piece.
use Rattle.std.proofs.Common.{◌≡◌, ◌+◌, ◌≤◌, ℕ, Bool, true, false, List, ◌++◌, take, drop, refl, sym, ap, ◌∙◌, bytes_eq}
use Rattle.std.proofs.Math.Seq.{take-add}
use Rattle.std.proofs.lemmas.List.{drop-take, take-take}
use Rattle.std.proofs.lemmas.Slice.Eq.{bytes_eq-Decides}

-- one piece more
pub same_more : (one other : List ℕ) (at n : ℕ) → take at one ≡ take at other
    → bytes_eq (take n (drop at one)) (take n (drop at other)) ≡ true → take (at + n) one ≡ take (at + n) other
same_more one other at n same piece =
    let piece_same = (bytes_eq-Decides (take n (drop at one)) (take n (drop at other))).0 piece in
    take-add at n one ∙ ap (λ (l : List ℕ). l ++ take n (drop at one)) same
    ∙ ap (λ (l : List ℕ). take at other ++ l) piece_same ∙ sym (take-add at n other)

-- a piece of what is compared is one of the file
piece_within : (bytes : List ℕ) (at n long : ℕ) → at + n ≤ long → take n (drop at (take long bytes)) ≡ take n (drop at bytes)
piece_within bytes at n long within =
    sym (drop-take at n (take long bytes)) ∙ ap (λ (l : List ℕ). drop at l) (take-take (at + n) long bytes within)
    ∙ drop-take at n bytes

differ : (one other : List ℕ) (test : Bool) → (test ≡ true → one ≡ other) → (one ≡ other → ⊥) → test ≡ false
differ one other true same apart = absurd (apart (same refl))
differ one other false same apart = refl

-- two pieces that differ
pub differ_there : (one other : List ℕ) (at n long : ℕ) → at + n ≤ long
    → bytes_eq (take n (drop at one)) (take n (drop at other)) ≡ false → bytes_eq (take long one) (take long other) ≡ false
differ_there one other at n long within piece =
    differ (take long one) (take long other) (bytes_eq (take long one) (take long other))
    (bytes_eq-Decides (take long one) (take long other)).0
    (λ same.
    let there : take n (drop at one) ≡ take n (drop at other) =
    sym (piece_within one at n long within) ∙ ap (λ (l : List ℕ). take n (drop at l)) same ∙ piece_within other at n long within in
    let is : bytes_eq (take n (drop at one)) (take n (drop at other)) ≡ true =
    (bytes_eq-Decides (take n (drop at one)) (take n (drop at other))).1 there in
    cc)
