-- What is equal in the order of versions, and what decides it.
use Rattle.std.proofs.Common.{◌≡◌, ◌≢◌, ◌↔◌, ℕ, cond, ◌==◌, List, [], ◌∷◌, ◌++◌, refl, ap, sym, ◌∙◌, Ordering, Less, Equal, Greater}
use Rattle.std.proofs.lemmas.Cmp.{tied_itself, ranked}
use Rattle.std.proofs.lemmas.List.{append_cancel_right}
use Rattle.std.specs.Cmp.Lexicographic.{slice_cmp}
use Rattle.std.specs.Ordering.{nat_cmp, ordering_then}
use Rattle.menu_order.specs.VersionTokens.{Token, Tilde, End, Hyphen, Caret, Dot, Letters, Number, tokens_of}
use Rattle.menu_order.specs.VersionOrder.{rank_of, letters_of, token_number, token_cmp, to_end, tokens_cmp}
use Rattle.menu_order.specs.VersionLaws.{EqualTokens, FirstDifference}
use Rattle.menu_order.specs.proofs.Orders.{token_cmp_total, tokens_cmp_total}

-- a token from its place, its letters and its number
abbrev token_from : ℕ → List ℕ → ℕ → Token
token_from rank letters number =
    cond (rank == 0) Tilde (cond (rank == 1) End (cond (rank == 2) Hyphen (cond (rank == 3) Caret
    (cond (rank == 4) Dot (cond (rank == 5) (Letters letters) (Number number))))))

token_from-parts : (x : Token) → token_from (rank_of x) (letters_of x) (token_number x) ≡ x
token_from-parts Tilde = refl
token_from-parts End = refl
token_from-parts Hyphen = refl
token_from-parts Caret = refl
token_from-parts Dot = refl
token_from-parts (Letters run) = refl
token_from-parts (Number n) = refl

-- both parts of a comparison are equal where it is
both_equal : (o p : Ordering) → ordering_then o p ≡ Equal → (o ≡ Equal) × (p ≡ Equal)
both_equal Equal p e = (refl, e)
both_equal Less p e = cc
both_equal Greater p e = cc

nat_cmp-Equal : (m n : ℕ) → nat_cmp m n ≡ Equal → m ≡ n
nat_cmp-Equal m n e = rw e at (ranked m n (nat_cmp m n) refl)

-- lists are equal in the order where their elements that are equal in theirs are the same
slice_cmp-Equal : {A : Type 0} (R : A → A → Ordering) → ((x y : A) → R x y ≡ Equal → x ≡ y) → (xs ys : List A) → slice_cmp R xs ys ≡ Equal → xs ≡ ys
slice_cmp-Equal R same [] [] e = refl
slice_cmp-Equal R same [] (y ∷ ys) e = cc
slice_cmp-Equal R same (x ∷ xs) [] e = cc
slice_cmp-Equal R same (x ∷ xs) (y ∷ ys) e =
    let both = both_equal (R x y) (slice_cmp R xs ys) e in
    let first = same x y both.0 in
    let rest = slice_cmp-Equal R same xs ys both.1 in
    ap (λ z. z ∷ xs) first ∙ ap (λ zs. y ∷ zs) rest

token_cmp-Equal : (x y : Token) → token_cmp x y ≡ Equal → x ≡ y
token_cmp-Equal x y e =
    let parts = both_equal (nat_cmp (rank_of x) (rank_of y)) _ e in
    let rest = both_equal (slice_cmp nat_cmp (letters_of x) (letters_of y)) _ parts.1 in
    let rank = nat_cmp-Equal (rank_of x) (rank_of y) parts.0 in
    let letters = slice_cmp-Equal nat_cmp nat_cmp-Equal (letters_of x) (letters_of y) rest.0 in
    let number = nat_cmp-Equal (token_number x) (token_number y) rest.1 in
    sym (token_from-parts x)
    ∙ ap (λ r. token_from r (letters_of x) (token_number x)) rank
    ∙ ap (λ l. token_from (rank_of y) l (token_number x)) letters
    ∙ ap (λ n. token_from (rank_of y) (letters_of y) n) number
    ∙ token_from-parts y

-- lists of tokens are equal in the order where no token differs, and there alone
pub tokens_cmp-Equal : (a b : List Token) → (tokens_cmp a b ≡ Equal) ↔ (a ≡ b)
tokens_cmp-Equal a b = (
  (λ e. append_cancel_right a b (End ∷ []) (slice_cmp-Equal token_cmp token_cmp-Equal (to_end a) (to_end b) e)),
  λ same. ap (λ ts. tokens_cmp ts b) same ∙ tied_itself tokens_cmp_total b,
)

pub equal_tokens : EqualTokens
equal_tokens a b = tokens_cmp-Equal (tokens_of a) (tokens_of b)

-- a comparison that isn't equal decides
then-decided : (o p : Ordering) → o ≢ Equal → ordering_then o p ≡ o
then-decided Less p h = refl
then-decided Greater p h = refl
then-decided Equal p h = absurd (h refl)

slice_cmp-first : (same : List Token) (x y : Token) (xs ys : List Token) → x ≢ y → slice_cmp token_cmp (same ++ x ∷ xs) (same ++ y ∷ ys) ≡ token_cmp x y
slice_cmp-first [] x y xs ys h = then-decided (token_cmp x y) (slice_cmp token_cmp xs ys) (λ e. h (token_cmp-Equal x y e))
slice_cmp-first (t ∷ same) x y xs ys h =
    ap (λ o. ordering_then o (slice_cmp token_cmp (same ++ x ∷ xs) (same ++ y ∷ ys))) (tied_itself token_cmp_total t)
    ∙ slice_cmp-first same x y xs ys h

pub first_difference : FirstDifference
first_difference a b same x y xs ys left right h = rw (left, right) (slice_cmp-first same x y xs ys h)
