-- Joined initrds: what their pieces come to.
use Rattle.std.proofs.Common.{◌≡◌, ℕ, ◌+◌, ◌-◌, ◌*◌, ◌%◌, ◌≤◌, ◌<◌, Bool, true, false, cond, List, [], ◌∷◌, ◌++◌, length, map, replicate, sum_by, refl, sym, ◌∙◌, ap, arith, append-nil, zero-add, lit<, lit≤, ◌==◌, flat_map}
use Rattle.std.specs.Int.{next_multiple_of}
use Rattle.std.proofs.lemmas.Bool.Decides.{nat_tests}
use Rattle.std.proofs.lemmas.Nat.{mod_below}
use Rattle.std.proofs.lemmas.Grind.{flat_map-append}
use Rattle.std.proofs.lemmas.List.Elements.{All-tail}
use Rattle.std.proofs.lemmas.List.Sums.{sum_by-append, sum_by-cons}
use Rattle.uki_parts.specs.declared.piece.Piece.{Piece}
use Rattle.uki_parts.specs.declared.piece.Piece.TheVariants as pieces
use Rattle.uki_parts.specs.Pieces.{Reading, HasSizes, piece_length, total_length, piece_bytes, bytes_of}
use Rattle.uki_parts.specs.Initrds.{padding_of, padded_piece, joined_initrds, joined_length, padded_initrd, joined_bytes}

pub joined_initrds-several : (files : List Piece) → 1 < length files → joined_initrds files ≡ flat_map padded_piece files
joined_initrds-several [] h = refl
joined_initrds-several (only ∷ []) h = absurd (omega arith)
joined_initrds-several (first ∷ second ∷ more) h = refl

pub joined_initrds-one : (files : List Piece) → length files ≤ 1 → joined_initrds files ≡ files
joined_initrds-one [] h = refl
joined_initrds-one (only ∷ []) h = refl
joined_initrds-one (first ∷ second ∷ more) h = absurd (omega arith)

total_length-padded : (piece : Piece) → total_length (padded_piece piece) ≡ next_multiple_of (piece_length piece) 4
total_length-padded piece = grind (arith, nat_tests)

total_length-flat_map : (files : List Piece) → total_length (flat_map padded_piece files) ≡ sum_by (λ n. next_multiple_of n 4) (map piece_length files)
total_length-flat_map [] = refl
total_length-flat_map (file ∷ files) =
    sum_by-append piece_length (padded_piece file) (flat_map padded_piece files)
    ∙ ap (λ n. n + total_length (flat_map padded_piece files)) (total_length-padded file)
    ∙ ap (λ n. next_multiple_of (piece_length file) 4 + n) (total_length-flat_map files)
    ∙ sym (sum_by-cons (λ n. next_multiple_of n 4) (piece_length file) (map piece_length files))

pub total_length-joined : (files : List Piece) → total_length (joined_initrds files) ≡ joined_length (map piece_length files)
total_length-joined [] = refl
total_length-joined (only ∷ []) = zero-add (piece_length only)
total_length-joined (first ∷ second ∷ more) = total_length-flat_map (first ∷ second ∷ more)

-- padding adds at most three bytes to each
padded-bound : (n : ℕ) → next_multiple_of n 4 ≤ n + 3
padded-bound n = omega (arith, mod_below (4 - n % 4) 4 (lit< tt))

total_length-cons : (file : Piece) (files : List Piece) → total_length (file ∷ files) ≡ piece_length file + total_length files
total_length-cons file files = sum_by-cons piece_length file files

flat_map-bound : (files : List Piece) → total_length (flat_map padded_piece files) ≤ total_length files + 3 * length files
flat_map-bound [] = lit≤ tt
flat_map-bound (file ∷ files) =
    let whole = sum_by-append piece_length (padded_piece file) (flat_map padded_piece files) in
    omega (arith, whole, total_length-padded file, padded-bound (piece_length file), flat_map-bound files, total_length-cons file files)

pub joined-bound : (files : List Piece) → total_length (joined_initrds files) ≤ total_length files + 3 * length files
joined-bound [] = lit≤ tt
joined-bound (only ∷ []) = omega arith
joined-bound (first ∷ second ∷ more) = flat_map-bound (first ∷ second ∷ more)

-- bytes are filled up with what their length lacks
filled_by : (bytes : List ℕ) (n : ℕ) → length bytes ≡ n → bytes ++ replicate (padding_of n) 0 ≡ padded_initrd bytes
filled_by bytes n size =
    let same : padding_of n ≡ next_multiple_of (length bytes) 4 - length bytes = grind arith in
    ap (λ k. bytes ++ replicate k 0) same

padding_none : (n : ℕ) → (padding_of n == 0) ≡ true → padding_of n ≡ 0
padding_none n h = grind (arith, nat_tests)

bytes_of-with_zeros : (files : Reading) (piece : Piece) (b : Bool) → (padding_of (piece_length piece) == 0) ≡ b →
    bytes_of files (cond b (piece ∷ []) (piece ∷ pieces.Zeros (padding_of (piece_length piece)) ∷ []))
    ≡ piece_bytes files piece ++ replicate (padding_of (piece_length piece)) 0
bytes_of-with_zeros files piece true none =
    ap (λ n. piece_bytes files piece ++ replicate n 0) (sym (padding_none (piece_length piece) none))
bytes_of-with_zeros files piece false some =
    ap (λ l. piece_bytes files piece ++ l) (append-nil (replicate (padding_of (piece_length piece)) 0))

bytes_of-padded : (files : Reading) (piece : Piece) → length (piece_bytes files piece) ≡ piece_length piece →
    bytes_of files (padded_piece piece) ≡ padded_initrd (piece_bytes files piece)
bytes_of-padded files piece size =
    bytes_of-with_zeros files piece (padding_of (piece_length piece) == 0) refl
    ∙ filled_by (piece_bytes files piece) (piece_length piece) size

bytes_of-flat_map : (files : Reading) (initrds : List Piece) → HasSizes files initrds →
    bytes_of files (flat_map padded_piece initrds) ≡ flat_map padded_initrd (map (piece_bytes files) initrds)
bytes_of-flat_map files [] sizes = refl
bytes_of-flat_map files (file ∷ initrds) sizes =
    flat_map-append (piece_bytes files) (padded_piece file) (flat_map padded_piece initrds)
    ∙ ap (λ l. l ++ bytes_of files (flat_map padded_piece initrds)) (bytes_of-padded files file (sizes 0 file (omega arith)))
    ∙ ap (λ l. padded_initrd (piece_bytes files file) ++ l) (bytes_of-flat_map files initrds (All-tail (λ piece. length (piece_bytes files piece) ≡ piece_length piece) file initrds sizes))

pub bytes_of-joined : (files : Reading) (initrds : List Piece) → HasSizes files initrds →
    bytes_of files (joined_initrds initrds) ≡ joined_bytes (map (piece_bytes files) initrds)
bytes_of-joined files [] sizes = refl
bytes_of-joined files (only ∷ []) sizes = append-nil (piece_bytes files only)
bytes_of-joined files (first ∷ second ∷ more) sizes = bytes_of-flat_map files (first ∷ second ∷ more) sizes
