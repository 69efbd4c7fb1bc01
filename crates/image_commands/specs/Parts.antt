-- Parts of a calculation under their names, as the code holds them.
use Rattle.std.specs.Prelude.{◌≡◌, ℕ, List, length, Option}
use Rattle.std.specs.Borrow.{Bor}
use Rattle.std.specs.Option.{option_copied}
use Rattle.boot_base.specs.Paths.{Path}
use Rattle.uki_parts.specs.Pieces.{Reading, piece_bytes, piece_length}
use Rattle.uki_parts.specs.declared.piece.Piece.{Piece}

-- a name with a word that may be given
abbrev pub named_word : Bor (List ℕ) × Option (Bor (List ℕ)) → List ℕ × Option (List ℕ)
named_word part = (part.0.now, option_copied part.1)

-- a name with a path
abbrev pub named_path : Bor (List ℕ) × Path → List ℕ × Path
named_path part = (part.0.now, part.1)

-- a name with the bytes of a file
abbrev pub named_file : Reading → Bor (List ℕ) × Piece → List ℕ × List ℕ
named_file files part = (part.0.now, piece_bytes files part.1)

-- a part's file has the size that its piece says
abbrev pub HasItsSize : Reading → Bor (List ℕ) × Piece → Type 0
HasItsSize files part = length (piece_bytes files part.1) ≡ piece_length part.1
