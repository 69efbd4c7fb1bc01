-- Several initrds in one section (Linux, initramfs buffer format).
use Rattle.std.specs.Prelude.{ℕ, ◌-◌, ◌%◌, ◌==◌, List, [], ◌∷◌, ◌++◌, length, replicate, sum_by, if◌then◌else◌}
use Rattle.std.specs.List.{flat_map}
use Rattle.std.specs.Int.{next_multiple_of}
use Rattle.uki_parts.specs.declared.piece.Piece.{Piece}
use Rattle.uki_parts.specs.declared.piece.Piece.TheVariants as pieces
use Rattle.uki_parts.specs.Pieces.{piece_length}

-- how many bytes a length lacks to a multiple of four
abbrev pub padding_of : ℕ → ℕ
padding_of length = (4 - length % 4) % 4

-- a piece, and the zeros that fill it up to a multiple of four bytes
abbrev pub padded_piece : Piece → List Piece
padded_piece piece =
    if padding_of (piece_length piece) == 0 then piece ∷ []
    else piece ∷ pieces.Zeros (padding_of (piece_length piece)) ∷ []

-- the pieces of the joined initrds: one as it is, of several each padded
abbrev pub joined_initrds : List Piece → List Piece
joined_initrds [] = []
joined_initrds (only ∷ []) = only ∷ []
joined_initrds (first ∷ second ∷ more) = flat_map padded_piece (first ∷ second ∷ more)

-- the length of the joined initrds, by their lengths
abbrev pub joined_length : List ℕ → ℕ
joined_length [] = 0
joined_length (only ∷ []) = only
joined_length (first ∷ second ∷ more) = sum_by (λ length. next_multiple_of length 4) (first ∷ second ∷ more)

-- bytes filled up with zeros to a multiple of four
abbrev pub padded_initrd : List ℕ → List ℕ
padded_initrd bytes = bytes ++ replicate (next_multiple_of (length bytes) 4 - length bytes) 0

-- the bytes of the joined initrds, by their bytes
abbrev pub joined_bytes : List (List ℕ) → List ℕ
joined_bytes [] = []
joined_bytes (only ∷ []) = only
joined_bytes (first ∷ second ∷ more) = flat_map padded_initrd (first ∷ second ∷ more)
