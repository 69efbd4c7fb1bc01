-- Numbers and parts of lists that are made of others.
use Rattle.std.proofs.Common.{◌≡◌, ◌<◌, ◌≤◌, ◌+◌, ◌-◌, ◌^◌, ℕ, List, ◌++◌, length, take, drop, sym, ap, ◌∙◌, arith, length-drop}
use Rattle.std.proofs.lemmas.List.{drop-append-le, drop_at, drop-drop, drop-take}
use Rattle.byteorder.specs.Endian.{little_number, little_bytes}
use Rattle.byteorder.specs.Numbers.{little_number-reads_back, little_from-append, little_from-take}
use Rattle.pe_reader.specs.Prelude.{u16_at, u32_at, part}

-- a number within the first of two lists
pub u32_at-append : (xs ys : List ℕ) (i : ℕ) → i + 4 ≤ length xs → u32_at (xs ++ ys) i ≡ u32_at xs i
unfolding u32_at
u32_at-append xs ys i h =
    let l = length-drop i xs in
    rw (drop-append-le i xs ys (omega arith)) (little_from-append 4 (drop i xs) ys (omega arith))

pub u16_at-append : (xs ys : List ℕ) (i : ℕ) → i + 2 ≤ length xs → u16_at (xs ++ ys) i ≡ u16_at xs i
unfolding u16_at
u16_at-append xs ys i h =
    let l = length-drop i xs in
    rw (drop-append-le i xs ys (omega arith)) (little_from-append 2 (drop i xs) ys (omega arith))

-- a number within the second of two lists
pub u32_at-skip : (xs ys : List ℕ) (i n : ℕ) → length xs ≡ n → u32_at (xs ++ ys) (n + i) ≡ u32_at ys i
unfolding u32_at
u32_at-skip xs ys i n h = ap (λ (l : List ℕ). little_number 4 l) (sym (drop-drop i n (xs ++ ys)) ∙ ap (drop i) (drop_at xs ys n h))

pub u16_at-skip : (xs ys : List ℕ) (i n : ℕ) → length xs ≡ n → u16_at (xs ++ ys) (n + i) ≡ u16_at ys i
unfolding u16_at
u16_at-skip xs ys i n h = ap (λ (l : List ℕ). little_number 2 l) (sym (drop-drop i n (xs ++ ys)) ∙ ap (drop i) (drop_at xs ys n h))

-- a number's own bytes
pub u32_at-bytes : (x : ℕ) (rest : List ℕ) → x < 2 ^ 32 → u32_at (little_bytes 4 x ++ rest) 0 ≡ x
unfolding u32_at
u32_at-bytes x rest h = little_number-reads_back 4 x rest h

pub u16_at-bytes : (x : ℕ) (rest : List ℕ) → x < 2 ^ 16 → u16_at (little_bytes 2 x ++ rest) 0 ≡ x
unfolding u16_at
u16_at-bytes x rest h = little_number-reads_back 2 x rest h

-- a number reads four bytes alone
pub u32_at-take : (m : ℕ) (xs : List ℕ) (i : ℕ) → i + 4 ≤ m → u32_at (take m xs) i ≡ u32_at xs i
unfolding u32_at
u32_at-take m xs i h =
    let k : m ≡ i + (m - i) = omega arith in
    ap (λ (n : ℕ). little_number 4 (drop i (take n xs))) k ∙ ap (λ (l : List ℕ). little_number 4 l) (drop-take i (m - i) xs) ∙ little_from-take 0 4 (m - i) (drop i xs) (omega arith)

pub u16_at-take : (m : ℕ) (xs : List ℕ) (i : ℕ) → i + 2 ≤ m → u16_at (take m xs) i ≡ u16_at xs i
unfolding u16_at
u16_at-take m xs i h =
    let k : m ≡ i + (m - i) = omega arith in
    ap (λ (n : ℕ). little_number 2 (drop i (take n xs))) k ∙ ap (λ (l : List ℕ). little_number 2 l) (drop-take i (m - i) xs) ∙ little_from-take 0 2 (m - i) (drop i xs) (omega arith)

-- The field of a part is the number at its place in the whole.
pub u32_at-part : (xs : List ℕ) (at count i : ℕ) → i + 4 ≤ count → u32_at (part xs at count) i ≡ u32_at xs (at + i)
unfolding u32_at
u32_at-part xs at count i h = u32_at-take count (drop at xs) i h ∙ ap (λ (l : List ℕ). little_number 4 l) (drop-drop i at xs)

pub u16_at-part : (xs : List ℕ) (at count i : ℕ) → i + 2 ≤ count → u16_at (part xs at count) i ≡ u16_at xs (at + i)
unfolding u16_at
u16_at-part xs at count i h = u16_at-take count (drop at xs) i h ∙ ap (λ (l : List ℕ). little_number 2 l) (drop-drop i at xs)
