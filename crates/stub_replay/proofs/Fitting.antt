-- What is read of contents is no more than they have.
use Rattle.std.proofs.Common.{◌≡◌, ◌≤◌, List, [], ◌∷◌, length, arith, length-append, sum_by}
use Rattle.std.proofs.lemmas.List.Elements.{All-head, All-tail}
use Rattle.std.proofs.lemmas.List.Sums.{sum_by-cons}
use Rattle.pe_reader.proofs.Ranges.{length-bytes_in}
use Rattle.uki_parts.specs.Pieces.{HasSizes, Reading, bytes_of, file_length, piece_bytes, piece_length}
use Rattle.uki_parts.specs.declared.piece.Piece.{Piece}
use Rattle.uki_parts.specs.declared.piece.Piece.TheVariants as pieces
use Rattle.stub_replay.specs.Parts.{IsWhole, content_bytes, read_length}
use Rattle.stub_replay.specs.declared.measurable.Content.{Content}
use Rattle.stub_replay.specs.declared.measurable.Content.TheVariants as sources

piece_fits : (files : Reading) (piece : Piece) → length (piece_bytes files piece) ≡ piece_length piece → file_length piece ≤ length (piece_bytes files piece)
piece_fits files (pieces.Bytes bytes) same = omega arith
piece_fits files (pieces.File path size) same = omega (arith, same)
piece_fits files (pieces.Zeros count) same = omega arith

pieces_fit : (files : Reading) (list : List Piece) → HasSizes files list → sum_by file_length list ≤ length (bytes_of files list)
pieces_fit files [] sized = omega arith
pieces_fit files (piece ∷ list) sized =
    let P = λ (p : Piece). length (piece_bytes files p) ≡ piece_length p in
    omega (
      arith,
      sum_by-cons file_length piece list,
      piece_fits files piece (All-head P piece list sized),
      pieces_fit files list (All-tail P piece list sized),
      length-append (piece_bytes files piece) (bytes_of files list),
    )

pub content_fits : (files : Reading) (content : Content) → IsWhole files content → read_length content ≤ length (content_bytes files content)
content_fits files (sources.Pieces list) whole = pieces_fit files list.now whole
content_fits files (sources.Bytes bytes) whole = omega arith
content_fits files (sources.Loaded path range) whole = omega (arith, length-bytes_in (files path.now) range whole)
