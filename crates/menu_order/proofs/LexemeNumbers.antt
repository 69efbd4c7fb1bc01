-- The order of the numbers of two runs of digits.
use Rattle.std.proofs.Common.{◌≡◌, ℕ, ◌+◌, ◌*◌, ◌^◌, ◌<◌, ◌≤◌, ◌≢◌, true, false, List, [], ◌∷◌, length, get_or, refl, ap, sym, ◌∙◌, ⊎_elim, arith, lit<, Ordering, Less, Equal, Greater}
use Rattle.std.proofs.Math.Nat.{pow-suc, pow-le-pow_right}
use Rattle.std.specs.Char.{digit_value}
use Rattle.std.specs.Cmp.{nat_cmp_is}
use Rattle.std.specs.Cmp.Lexicographic.{slice_cmp}
use Rattle.std.specs.Ordering.{MatchOrdering, nat_cmp, ordering_then}
use Rattle.std.specs.Str.Parse.{AllDigits, digits_value, digits_value_after}
use Rattle.std.proofs.lemmas.Bool.{cases_Bool, eqb-true, eqb-false}
use Rattle.std.proofs.lemmas.Cmp.{ranked}
use Rattle.std.proofs.lemmas.Int.Digits.{digits_value-lt}
use Rattle.std.proofs.lemmas.Str.{digit_value_digit}
use Rattle.std.proofs.lemmas.Str.Parse.{digit_from_value}
use Rattle.menu_order.proofs.LexemeFronts.{skip-yes, skip-no}
use Rattle.menu_order.specs.Lexemes.{is_zero, significant_digits}

-- the number of digits, in base 10
abbrev pub value : List ℕ → ℕ
value ds = digits_value 10 ds

weight : (n d power v : ℕ) → (n * 10 + d) * power + v ≡ n * (power * 10) + ((0 + d) * power + v)
weight n d power v = omega arith

-- the digits that follow those of n weigh what they weigh alone
pub digits_value_after-weight : (n : ℕ) (ds : List ℕ) → digits_value_after 10 n ds ≡ n * 10 ^ length ds + value ds
digits_value_after-weight n [] = omega arith
digits_value_after-weight n (d ∷ ds) =
    rw (digits_value_after-weight (n * 10 + digit_value d) ds, digits_value_after-weight (0 + digit_value d) ds, pow-suc 10 (length ds))
    (weight n (digit_value d) (10 ^ length ds) (value ds))

-- the first digit weighs as much as its place says
pub value-cons : (d : ℕ) (ds : List ℕ) → value (d ∷ ds) ≡ digit_value d * 10 ^ length ds + value ds
value-cons d ds = digits_value_after-weight (0 + digit_value d) ds ∙ ap (λ n. n * 10 ^ length ds + value ds) (omega arith)

-- of two numbers with as many digits the one with the lower first digit is lower
first_decides : (d e power v w : ℕ) → d < e → v < power → d * power + v < e * power + w
first_decides d e power v w h k = grind arith

rest_decides : (d e power v w : ℕ) → d ≡ e → v < w → d * power + v < e * power + w
rest_decides d e power v w h k = let same : d * power ≡ e * power = ap (λ n. n * power) h in omega arith

-- two numbers with as many digits go by their first digits, and then by the rest
first_then_rest : (d e power v w : ℕ) (o s : Ordering) → MatchOrdering o (d < e) (d ≡ e) (e < d) → MatchOrdering s (v < w) (v ≡ w) (w < v) → v < power
    → w < power → MatchOrdering (ordering_then o s) (d * power + v < e * power + w) (d * power + v ≡ e * power + w) (e * power + w < d * power + v)
first_then_rest d e power v w Less s m t low high = first_decides d e power v w m low
first_then_rest d e power v w Greater s m t low high = first_decides e d power w v m high
first_then_rest d e power v w Equal Less m t low high = rest_decides d e power v w m t
first_then_rest d e power v w Equal Greater m t low high = rest_decides e d power w v (sym m) t
first_then_rest d e power v w Equal Equal m t low high = ap (λ n. n * power + v) m ∙ ap (λ n. e * power + n) t

-- digits go as their values
digits_ranked : (c d : ℕ) (o : Ordering) → digit_value c < 10 → digit_value d < 10 → MatchOrdering o (c < d) (c ≡ d) (d < c)
    → MatchOrdering o (digit_value c < digit_value d) (digit_value c ≡ digit_value d) (digit_value d < digit_value c)
digits_ranked c d Less h k m = omega (arith, digit_value_digit c (digit_from_value c h), digit_value_digit d (digit_from_value d k))
digits_ranked c d Equal h k m = ap digit_value m
digits_ranked c d Greater h k m = omega (arith, digit_value_digit c (digit_from_value c h), digit_value_digit d (digit_from_value d k))

-- two runs of as many digits go as their numbers
pub same_length_ranked : (ds es : List ℕ) → AllDigits 10 ds → AllDigits 10 es → length ds ≡ length es
    → MatchOrdering (slice_cmp nat_cmp ds es) (value ds < value es) (value ds ≡ value es) (value es < value ds)
same_length_ranked [] [] h k e = refl
same_length_ranked [] (y ∷ ys) h k e = absurd (omega arith)
same_length_ranked (x ∷ xs) [] h k e = absurd (omega arith)
same_length_ranked (x ∷ xs) (y ∷ ys) h k e =
    let same : length xs ≡ length ys = omega arith in
    rw (value-cons x xs, value-cons y ys, ← same)
    (first_then_rest (digit_value x) (digit_value y) (10 ^ length xs) (value xs) (value ys) (nat_cmp x y) (slice_cmp nat_cmp xs ys)
    (digits_ranked x y (nat_cmp x y) h.0 k.0 (ranked x y (nat_cmp x y) refl))
    (same_length_ranked xs ys h.1 k.1 same)
    (digits_value-lt 10 xs h.1)
    (rw same (digits_value-lt 10 ys k.1)))

above_power : (d power v : ℕ) → 1 ≤ d → power ≤ d * power + v
above_power d power v h = grind arith

-- a number without a leading zero is above each number of fewer digits
pub shorter_below : (ds es : List ℕ) → AllDigits 10 ds → AllDigits 10 es → get_or es 0 0 ≢ 48 → length ds < length es → value ds < value es
shorter_below ds [] h k first e = absurd (omega arith)
shorter_below ds (y ∷ ys) h k first e =
    let fewer : length ds ≤ length ys = omega arith in
    let room : 10 ^ length ds ≤ 10 ^ length ys = pow-le-pow_right (lit< tt) fewer in
    let below : value ds < 10 ^ length ds = digits_value-lt 10 ds h in
    let one : 1 ≤ digit_value y = omega (arith, digit_value_digit y (digit_from_value y k.0)) in
    let above : 10 ^ length ys ≤ digit_value y * 10 ^ length ys + value ys = above_power (digit_value y) (10 ^ length ys) (value ys) one in
    rw (value-cons y ys) (omega arith)

-- runs of digits without leading zeros go by their lengths, and then by their bytes
by_length : (ds es : List ℕ) (o : Ordering) → AllDigits 10 ds → AllDigits 10 es → get_or ds 0 0 ≢ 48 → get_or es 0 0 ≢ 48
    → MatchOrdering o (length ds < length es) (length ds ≡ length es) (length es < length ds)
    → MatchOrdering (ordering_then o (slice_cmp nat_cmp ds es)) (value ds < value es) (value ds ≡ value es) (value es < value ds)
by_length ds es Less h k a b m = shorter_below ds es h k b m
by_length ds es Greater h k a b m = shorter_below es ds k h a m
by_length ds es Equal h k a b m = same_length_ranked ds es h k m

pub significant_order : (ds es : List ℕ) → AllDigits 10 ds → AllDigits 10 es → get_or ds 0 0 ≢ 48 → get_or es 0 0 ≢ 48
    → ordering_then (nat_cmp (length ds) (length es)) (slice_cmp nat_cmp ds es) ≡ nat_cmp (value ds) (value es)
significant_order ds es h k a b = nat_cmp_is (value ds) (value es) _ (by_length ds es (nat_cmp (length ds) (length es)) h k a b (ranked (length ds) (length es) (nat_cmp (length ds) (length es)) refl))

-- what is left without the leading zeros
pub record IsSignificant (ds es : List ℕ) : Type 0 where
  pub digits : AllDigits 10 es
  pub first : get_or es 0 0 ≢ 48
  pub same : value es ≡ value ds

pub significant_is : (ds : List ℕ) → AllDigits 10 ds → IsSignificant ds (significant_digits ds)
significant_is [] h = record { digits = h; first = λ (e : 0 ≡ 48). absurd (omega arith); same = refl }
significant_is (d ∷ ds) h = ⊎_elim
    (λ (e : is_zero d ≡ true).
    let rest = significant_is ds h.1 in
    let zero_first : value (d ∷ ds) ≡ value ds = ap (λ c. value (c ∷ ds)) (eqb-true d 48 e) in
    rw (skip-yes is_zero d ds e) (record { digits = rest.digits; first = rest.first; same = rest.same ∙ sym zero_first }))
    (λ (e : is_zero d ≡ false). rw (skip-no is_zero d ds e) (record { digits = h; first = eqb-false d 48 e; same = refl }))
    (cases_Bool (is_zero d))

-- runs of digits go as their numbers, by their lengths and then their bytes without leading zeros
pub numbers_order : (ds es : List ℕ) → AllDigits 10 ds → AllDigits 10 es
    → ordering_then (nat_cmp (length (significant_digits ds)) (length (significant_digits es)))
    (slice_cmp nat_cmp (significant_digits ds) (significant_digits es)) ≡ nat_cmp (value ds) (value es)
numbers_order ds es h k =
    let left = significant_is ds h in
    let right = significant_is es k in
    significant_order (significant_digits ds) (significant_digits es) left.digits right.digits left.first right.first
    ∙ ap (λ n. nat_cmp n (value (significant_digits es))) left.same ∙ ap (λ n. nat_cmp (value ds) n) right.same
