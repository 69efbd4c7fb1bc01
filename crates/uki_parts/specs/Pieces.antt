-- What pieces stand for.
use Rattle.std.specs.Prelude.{◌≡◌, ℕ, List, length, replicate, sum_by}
use Rattle.std.specs.List.{All, flat_map}
use Rattle.boot_base.specs.Paths.{Path}
use Rattle.uki_parts.specs.declared.piece.Piece.{Piece}
use Rattle.uki_parts.specs.declared.piece.Piece.TheVariants as pieces

-- how many bytes a piece stands for
abbrev pub piece_length : Piece → ℕ
piece_length (pieces.Bytes bytes) = length bytes
piece_length (pieces.File path size) = size
piece_length (pieces.Zeros count) = count

-- how many bytes pieces stand for together
abbrev pub total_length : List Piece → ℕ
total_length pieces = sum_by piece_length pieces

-- how many bytes of a file a piece has; bytes at hand and zeros have none
abbrev pub file_length : Piece → ℕ
file_length (pieces.Bytes bytes) = 0
file_length (pieces.File path size) = size
file_length (pieces.Zeros count) = 0

-- the bytes of the file at each path
abbrev pub Reading : Type 0
Reading = Path → List ℕ

-- the bytes that a piece stands for
abbrev pub piece_bytes : Reading → Piece → List ℕ
piece_bytes files (pieces.Bytes bytes) = bytes
piece_bytes files (pieces.File path size) = files path
piece_bytes files (pieces.Zeros count) = replicate count 0

-- the bytes that pieces stand for together
abbrev pub bytes_of : Reading → List Piece → List ℕ
bytes_of files pieces = flat_map (piece_bytes files) pieces

-- each file has the size that its piece says
abbrev pub HasSizes : Reading → List Piece → Type 0
HasSizes files pieces = All (λ piece. length (piece_bytes files piece) ≡ piece_length piece) pieces
