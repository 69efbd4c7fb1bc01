-- Parts that are filled up, behind a stub that is filled up.
use Rattle.std.proofs.Common.{◌≡◌, ◌<◌, ◌+◌, ◌-◌, ◌*◌, ◌/◌, ◌%◌, inl, inr, ℕ, suc, List, [], ◌∷◌, ◌++◌, length, refl, sym, ap, ◌∙◌, arith, append_assoc, append-nil, length-append, replicate, All, flat_map, take_all}
use Rattle.std.specs.Int.{next_multiple_of}
use Rattle.std.proofs.Math.Nat.{mod_self, add-zero, mod-eq_of_lt, add-mul-mod_self_left, dvd-add}
use Rattle.std.proofs.lemmas.Bool.{cases_lt}
use Rattle.std.proofs.lemmas.List.Sums.{sum_by-cons}
use Rattle.std.proofs.lemmas.Nat.Gcd.{dvd_of_mod-eq-zero, mod-eq-zero_of_dvd}
use Rattle.boot_machine.proofs.Filling.{fill_with_zeros-inside}
use Rattle.boot_machine.specs.Prelude.{fill_with_zeros}
use Rattle.uki_parts.specs.declared.part.Part.{Part}
use Rattle.uki_parts.specs.declared.piece.Piece.{Piece}
use Rattle.uki_parts.specs.declared.piece.Piece.TheVariants as pieces
use Rattle.uki_parts.specs.Pieces.{Reading, bytes_of, piece_bytes, piece_length, total_length, HasSizes}
use Rattle.pe_builder.specs.Puts.{pad_to}
use Rattle.pe_builder.specs.Image.{with_raw}
use Rattle.pe_builder.proofs.Rounding.{length-pad_to, pad_to-is}
use Rattle.image_writer.specs.Chunks.{given_bytes, gap, padded_part, behind_stub}
use Rattle.image_writer.specs.Sourced.{parts_bytes, IsPieced}

-- a multiple is filled up already
no_gap : (unit n : ℕ) → n % unit ≡ 0 → gap unit n ≡ 0
no_gap unit n e =
    let whole : unit - n % unit ≡ unit = omega (arith, e) in
    ap (λ (k : ℕ). k % unit) whole ∙ mod_self unit

rounded_past : (unit n : ℕ) → 0 < n % unit → 0 < unit → next_multiple_of n unit % unit ≡ 0
rounded_past unit n some pos =
    let less : unit - n % unit < unit = omega arith in
    let all : n + (unit - n % unit) ≡ unit + unit * (n / unit) = omega arith in
    ap (λ (k : ℕ). (n + k) % unit) (mod-eq_of_lt less) ∙ ap (λ (k : ℕ). k % unit) all ∙ add-mul-mod_self_left unit unit (n / unit) ∙ mod_self unit

rounded : (unit n : ℕ) → 0 < unit → next_multiple_of n unit % unit ≡ 0
rounded unit n pos = elim (cases_lt 0 (n % unit)) [
  | inl some ↦ rounded_past unit n some pos
  | inr none ↦
      let zero : n % unit ≡ 0 = omega (arith, none) in
      ap (λ (k : ℕ). (n + k) % unit) (no_gap unit n zero) ∙ ap (λ (k : ℕ). k % unit) (add-zero n) ∙ zero
]

sum_rounded : (unit a b : ℕ) → a % unit ≡ 0 → b % unit ≡ 0 → (a + b) % unit ≡ 0
sum_rounded unit a b e1 e2 = mod-eq-zero_of_dvd unit (dvd-add unit (dvd_of_mod-eq-zero unit e1) (dvd_of_mod-eq-zero unit e2))

padded_whole : (unit : ℕ) (bytes : List ℕ) → length bytes % unit ≡ 0 → pad_to unit bytes ≡ bytes
padded_whole unit bytes e = pad_to-is unit bytes ∙ ap (λ (n : ℕ). bytes ++ replicate n 0) (no_gap unit (length bytes) e) ∙ append-nil bytes

-- a piece gives its bytes
given : (files : Reading) (piece : Piece) → length (piece_bytes files piece) ≡ piece_length piece → given_bytes files piece ≡ piece_bytes files piece
given files (pieces.Bytes bytes) e = refl
given files (pieces.File path size) e =
    let whole : size - 0 ≡ length (files path) = omega (arith, e) in
    ap (fill_with_zeros (files path)) whole ∙ zero_filled-whole (files path)
  where
    zero_filled-whole : (bytes : List ℕ) → fill_with_zeros bytes (length bytes) ≡ bytes
    zero_filled-whole bytes = fill_with_zeros-inside bytes (length bytes) (omega arith) ∙ take_all (length bytes) bytes (omega arith)
given files (pieces.Zeros count) e = refl

all_tail : {X : Type 0} (P : X → Type 0) (x : X) (xs : List X) → All P (x ∷ xs) → All P xs
all_tail P x xs all = λ k d lt. all (suc k) d (omega arith)

all_head : {X : Type 0} (P : X → Type 0) (x : X) (xs : List X) → All P (x ∷ xs) → P x
all_head P x xs all = all 0 x (omega arith)

-- a piece has its size
abbrev HasSize : Reading → Piece → Type 0
HasSize files piece = length (piece_bytes files piece) ≡ piece_length piece

given_all : (files : Reading) (ps : List Piece) → HasSizes files ps → flat_map (given_bytes files) ps ≡ bytes_of files ps
given_all files [] h = refl
given_all files (p ∷ ps) h =
    let here = given files p (all_head (HasSize files) p ps h) in
    let next = given_all files ps (all_tail (HasSize files) p ps h) in
    ap (λ (l : List ℕ). l ++ flat_map (given_bytes files) ps) here ∙ ap (λ (l : List ℕ). piece_bytes files p ++ l) next

length_all : (files : Reading) (ps : List Piece) → HasSizes files ps → length (bytes_of files ps) ≡ total_length ps
length_all files [] h = refl
length_all files (p ∷ ps) h =
    let here = all_head (HasSize files) p ps h in
    let next = length_all files ps (all_tail (HasSize files) p ps h) in
    length-append (piece_bytes files p) (bytes_of files ps) ∙ ap (λ (n : ℕ). n + length (bytes_of files ps)) here
    ∙ ap (λ (n : ℕ). piece_length p + n) next ∙ sym (sum_by-cons piece_length p ps)

padded_pieces : (files : Reading) (unit : ℕ) (part : Part) → IsPieced files part → pad_to unit (bytes_of files part.pieces.items) ≡ padded_part files unit part
padded_pieces files unit part is =
    let long : length (bytes_of files part.pieces.items) ≡ part.length = length_all files part.pieces.items is.sizes ∙ is.total in
    pad_to-is unit (bytes_of files part.pieces.items)
    ∙ ap (λ (n : ℕ). bytes_of files part.pieces.items ++ replicate (gap unit n) 0) long
    ∙ ap (λ (l : List ℕ). l ++ replicate (gap unit part.length) 0) (sym (given_all files part.pieces.items is.sizes))

both_whole : (unit : ℕ) (a b : List ℕ) → 0 < unit → length (pad_to unit a ++ pad_to unit b) % unit ≡ 0
both_whole unit a b pos =
    let long : length (pad_to unit a ++ pad_to unit b) ≡ next_multiple_of (length a) unit + next_multiple_of (length b) unit =
    length-append (pad_to unit a) (pad_to unit b) ∙ ap (λ (n : ℕ). n + length (pad_to unit b)) (length-pad_to unit a)
    ∙ ap (λ (n : ℕ). next_multiple_of (length a) unit + n) (length-pad_to unit b) in
    ap (λ (n : ℕ). n % unit) long ∙ sum_rounded unit _ _ (rounded unit (length a) pos) (rounded unit (length b) pos)

-- parts behind bytes that are filled up
behind_whole : (files : Reading) (unit : ℕ) (parts : List Part) (bytes : List ℕ) → 0 < unit → All (IsPieced files) parts → length bytes % unit ≡ 0
    → with_raw unit bytes (parts_bytes files parts) ≡ bytes ++ flat_map (padded_part files unit) parts
unfolding with_raw
behind_whole files unit [] bytes pos all whole = sym (append-nil bytes)
behind_whole files unit (p ∷ ps) bytes pos all whole =
    let content = bytes_of files p.pieces.items in
    let rest = flat_map (padded_part files unit) ps in
    behind_whole files unit ps (pad_to unit bytes ++ pad_to unit content) pos (all_tail (IsPieced files) p ps all) (both_whole unit bytes content pos)
    ∙ ap (λ (l : List ℕ). (l ++ pad_to unit content) ++ rest) (padded_whole unit bytes whole)
    ∙ ap (λ (l : List ℕ). (bytes ++ l) ++ rest) (padded_pieces files unit p (all_head (IsPieced files) p ps all))
    ∙ append_assoc bytes (padded_part files unit p) rest

pub behind-is : (files : Reading) (unit n : ℕ) (parts : List Part) (bytes : List ℕ) → 0 < unit → All (IsPieced files) parts → n ≡ length bytes
    → with_raw unit bytes (parts_bytes files parts) ≡ bytes ++ behind_stub files unit n parts
unfolding with_raw
behind-is files unit n [] bytes pos all long = sym (append-nil bytes)
behind-is files unit n (p ∷ ps) bytes pos all long =
    let content = bytes_of files p.pieces.items in
    let rest = flat_map (padded_part files unit) ps in
    let filled : pad_to unit bytes ≡ bytes ++ replicate (gap unit n) 0 = pad_to-is unit bytes ∙ ap (λ (k : ℕ). bytes ++ replicate (gap unit k) 0) (sym long) in
    behind_whole files unit ps (pad_to unit bytes ++ pad_to unit content) pos (all_tail (IsPieced files) p ps all) (both_whole unit bytes content pos)
    ∙ ap (λ (l : List ℕ). (l ++ pad_to unit content) ++ rest) filled
    ∙ ap (λ (l : List ℕ). ((bytes ++ replicate (gap unit n) 0) ++ l) ++ rest) (padded_pieces files unit p (all_head (IsPieced files) p ps all))
    ∙ append_assoc (bytes ++ replicate (gap unit n) 0) (padded_part files unit p) rest
    ∙ append_assoc bytes (replicate (gap unit n) 0) (padded_part files unit p ++ rest)
