-- Bytes that are given piece by piece.
use Rattle.std.proofs.Common.{◌≡◌, ◌<◌, ◌≤◌, ◌+◌, ℕ, List, [], ◌∷◌, ◌++◌, length, take, get_or, sym, ap, ◌∙◌, arith, replicate, sum_by, ◌==◌, false, flat_map}
use Rattle.std.proofs.lemmas.Grind.{flat_map-append}
use Rattle.std.proofs.lemmas.List.{take_all, take_more, append-nil, take-replicate, replicate-append-replicate}
use Rattle.std.proofs.lemmas.List.Sums.{sum_by_more, sum_by-take-le}
use Rattle.uki_parts.specs.declared.part.Part.{Part}
use Rattle.uki_parts.specs.Pieces.{Reading}
use Rattle.image_writer.specs.Chunks.{gap, padded_part, behind_stub}

-- more zeros
pub zeros_more : (zeros : List ℕ) (done count : ℕ) → zeros ≡ replicate (length zeros) 0 → count ≤ length zeros
    → replicate done 0 ++ take count zeros ≡ replicate (done + count) 0
zeros_more zeros done count all_zero fits =
    ap (λ (l : List ℕ). replicate done 0 ++ l) (ap (take count) all_zero ∙ take-replicate count (length zeros) 0 fits)
    ∙ replicate-append-replicate done count 0

-- one item more
pub flat_map-more : {X : Type 0} (f : X → List ℕ) (xs : List X) (i : ℕ) (x : X) → i < length xs → x ≡ get_or xs i x
    → flat_map f (take i xs) ++ f x ≡ flat_map f (take (i + 1) xs)
flat_map-more f xs i x lt is =
    ap (λ (l : List ℕ). flat_map f (take i xs) ++ l) (ap f is ∙ sym (append-nil (f (get_or xs i x))))
    ∙ sym (flat_map-append f (take i xs) (get_or xs i x ∷ []))
    ∙ ap (flat_map f) (sym (take_more xs i x lt))

-- one item more, whose bytes are those of another thing that it gives and of a file that stays
pub flat_map-next : {X Y : Type 0} (F : List ℕ → Y → List ℕ) (h : X → Y) (file seen : List ℕ) (xs : List X) (i : ℕ) (d : X) (y : Y) → i < length xs → seen ≡ file → y ≡ h (get_or xs i d)
    → flat_map (λ x. F file (h x)) (take i xs) ++ F seen y ≡ flat_map (λ x. F file (h x)) (take (i + 1) xs)
flat_map-next F h file seen xs i d y lt same is =
    ap (λ (s : List ℕ). flat_map (λ x. F file (h x)) (take i xs) ++ F s y) same
    ∙ ap (λ z. flat_map (λ x. F file (h x)) (take i xs) ++ F file z) is
    ∙ ap (λ (l : List ℕ). flat_map (λ x. F file (h x)) (take i xs) ++ l) (sym (append-nil (F file (h (get_or xs i d)))))
    ∙ sym (flat_map-append (λ x. F file (h x)) (take i xs) (get_or xs i d ∷ []))
    ∙ ap (flat_map (λ x. F file (h x))) (sym (take_more xs i d lt))

pub flat_map-all : {X : Type 0} (f : X → List ℕ) (xs : List X) (i : ℕ) → length xs ≤ i → flat_map f (take i xs) ≡ flat_map f xs
flat_map-all f xs i le = ap (flat_map f) (take_all i xs le)

-- four lists in a row
pub four : (a a' b b' c c' d d' : List ℕ) → a ≡ a' → b ≡ b' → c ≡ c' → d ≡ d' → a ++ b ++ c ++ d ≡ a' ++ b' ++ c' ++ d'
four a a' b b' c c' d d' e1 e2 e3 e4 = cc

-- some parts behind a stub
pub behind_some : (files : Reading) (unit stub_length count : ℕ) (parts : List Part) → (length parts == 0) ≡ false → count ≡ gap unit stub_length
    → replicate count 0 ++ flat_map (padded_part files unit) parts ≡ behind_stub files unit stub_length parts
behind_some files unit stub_length count [] some is = cc
behind_some files unit stub_length count (p ∷ ps) some is = ap (λ (n : ℕ). replicate n 0 ++ flat_map (padded_part files unit) (p ∷ ps)) is

-- one more item is read
pub reads_more : {X : Type 0} (f : X → ℕ) (xs : List X) (i : ℕ) (d : X) (start before after : ℕ) → i < length xs → before ≤ start + sum_by f (take i xs) → after ≤ before + f (get_or xs i d)
    → after ≤ start + sum_by f (take (i + 1) xs)
reads_more f xs i d start before after lt first second = omega (arith, first, second, sum_by_more f xs i d lt)

-- of all items no more is read than all have
pub reads_all : {X : Type 0} (f : X → ℕ) (xs : List X) (i : ℕ) (start after : ℕ) → after ≤ start + sum_by f (take i xs) → after ≤ start + sum_by f xs
reads_all f xs i start after first = omega (arith, first, sum_by-take-le f xs i)
