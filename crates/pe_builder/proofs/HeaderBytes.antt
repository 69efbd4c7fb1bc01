-- A section header reads as the section that it was written from.
use Rattle.std.proofs.Common.{◌≡◌, ◌<◌, ◌+◌, ◌^◌, ℕ, List, ◌++◌, length, take, replicate, ap, ◌∙◌, arith, length-append, append_assoc, take_at}
use Rattle.byteorder.specs.Endian.{little_bytes}
use Rattle.pe_reader.specs.declared.section.Section.{Section}
use Rattle.pe_reader.specs.Prelude.{u32_at, section_at}
use Rattle.pe_reader.proofs.Places.{u32_at-skip, u32_at-bytes}
use Rattle.pe_builder.specs.Image.{section_header}

-- what has a header
pub record FitsHeader (s : Section) : Type 0 where
  pub name : length s.name ≡ 8
  pub virtual_size : s.virtual_size < 2 ^ 32
  pub virtual_address : s.virtual_address < 2 ^ 32
  pub raw_size : s.raw_size < 2 ^ 32
  pub raw_place : s.raw_place < 2 ^ 32
  pub flags : s.flags < 2 ^ 32

-- a number behind a list of that length
u32_in : (xs : List ℕ) (n x : ℕ) (ys : List ℕ) → length xs ≡ n → x < 2 ^ 32 → u32_at (xs ++ (little_bytes 4 x ++ ys)) n ≡ x
u32_in xs n x ys h l =
    let k : n ≡ n + 0 = omega arith in
    ap (λ (i : ℕ). u32_at (xs ++ (little_bytes 4 x ++ ys)) i) k ∙ u32_at-skip xs _ 0 n h ∙ u32_at-bytes x ys l

-- seven lists in a row, cut at each
len7 : (n a b c d z f : List ℕ) → length (n ++ a ++ b ++ c ++ d ++ z ++ f) ≡ length n + length a + length b + length c + length d + length z + length f
len7 n a b c d z f = simp length-append

cut1 : (n a b c d z f r : List ℕ) → (n ++ a ++ b ++ c ++ d ++ z ++ f) ++ r ≡ n ++ (a ++ (b ++ c ++ d ++ z ++ f ++ r))
cut1 n a b c d z f r = simp append_assoc

cut2 : (n a b c d z f r : List ℕ) → (n ++ a ++ b ++ c ++ d ++ z ++ f) ++ r ≡ (n ++ a) ++ (b ++ (c ++ d ++ z ++ f ++ r))
cut2 n a b c d z f r = simp append_assoc

cut3 : (n a b c d z f r : List ℕ) → (n ++ a ++ b ++ c ++ d ++ z ++ f) ++ r ≡ (n ++ a ++ b) ++ (c ++ (d ++ z ++ f ++ r))
cut3 n a b c d z f r = simp append_assoc

cut4 : (n a b c d z f r : List ℕ) → (n ++ a ++ b ++ c ++ d ++ z ++ f) ++ r ≡ (n ++ a ++ b ++ c) ++ (d ++ (z ++ f ++ r))
cut4 n a b c d z f r = simp append_assoc

cut6 : (n a b c d z f r : List ℕ) → (n ++ a ++ b ++ c ++ d ++ z ++ f) ++ r ≡ (n ++ a ++ b ++ c ++ d ++ z) ++ (f ++ r)
cut6 n a b c d z f r = simp append_assoc

pub same_section : (n n' : List ℕ) (a a' b b' c c' d d' f f' : ℕ) → n ≡ n' → a ≡ a' → b ≡ b' → c ≡ c' → d ≡ d' → f ≡ f'
    → (let s : Section = record { name = n; virtual_size = a; virtual_address = b; raw_size = c; raw_place = d; flags = f } in s)
    ≡ record { name = n'; virtual_size = a'; virtual_address = b'; raw_size = c'; raw_place = d'; flags = f' }
same_section n n' a a' b b' c c' d d' f f' e1 e2 e3 e4 e5 e6 = cc

pub length-section_header : (s : Section) → length s.name ≡ 8 → length (section_header s) ≡ 40
unfolding section_header
length-section_header s h =
    len7 s.name (little_bytes 4 s.virtual_size) (little_bytes 4 s.virtual_address) (little_bytes 4 s.raw_size) (little_bytes 4 s.raw_place) (replicate 12 0) (little_bytes 4 s.flags)
    ∙ omega (arith, h)

pub section_at-header : (s : Section) (rest : List ℕ) → FitsHeader s → section_at (section_header s ++ rest) ≡ s
unfolding section_header section_at
section_at-header s rest fits =
    let n = s.name in
    let a = little_bytes 4 s.virtual_size in
    let b = little_bytes 4 s.virtual_address in
    let c = little_bytes 4 s.raw_size in
    let d = little_bytes 4 s.raw_place in
    let z = replicate 12 0 in
    let f = little_bytes 4 s.flags in
    let l2 : length (n ++ a) ≡ 12 = length-append n a ∙ ap (λ (k : ℕ). k + 4) fits.name in
    let l3 : length (n ++ a ++ b) ≡ 16 = length-append (n ++ a) b ∙ ap (λ (k : ℕ). k + 4) l2 in
    let l4 : length (n ++ a ++ b ++ c) ≡ 20 = length-append (n ++ a ++ b) c ∙ ap (λ (k : ℕ). k + 4) l3 in
    let l5 : length (n ++ a ++ b ++ c ++ d) ≡ 24 = length-append (n ++ a ++ b ++ c) d ∙ ap (λ (k : ℕ). k + 4) l4 in
    let l6 : length (n ++ a ++ b ++ c ++ d ++ z) ≡ 36 = length-append (n ++ a ++ b ++ c ++ d) z ∙ ap (λ (k : ℕ). k + 12) l5 in
    same_section _ n _ s.virtual_size _ s.virtual_address _ s.raw_size _ s.raw_place _ s.flags
    (ap (take 8) (cut1 n a b c d z f rest) ∙ take_at n _ 8 fits.name)
    (ap (λ (l : List ℕ). u32_at l 8) (cut1 n a b c d z f rest) ∙ u32_in n 8 s.virtual_size _ fits.name fits.virtual_size)
    (ap (λ (l : List ℕ). u32_at l 12) (cut2 n a b c d z f rest) ∙ u32_in (n ++ a) 12 s.virtual_address _ l2 fits.virtual_address)
    (ap (λ (l : List ℕ). u32_at l 16) (cut3 n a b c d z f rest) ∙ u32_in (n ++ a ++ b) 16 s.raw_size _ l3 fits.raw_size)
    (ap (λ (l : List ℕ). u32_at l 20) (cut4 n a b c d z f rest) ∙ u32_in (n ++ a ++ b ++ c) 20 s.raw_place _ l4 fits.raw_place)
    (ap (λ (l : List ℕ). u32_at l 36) (cut6 n a b c d z f rest) ∙ u32_in (n ++ a ++ b ++ c ++ d ++ z) 36 s.flags _ l6 fits.flags)
