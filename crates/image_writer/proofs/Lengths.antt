-- Writing an image reads at most as many bytes as it has.
use Rattle.std.proofs.Common.{◌≡◌, ◌≤◌, ◌-◌, ℕ, List, [], ◌∷◌, ◌++◌, length, take, ap, arith, length-append, replicate, sum_by, flat_map}
use Rattle.std.proofs.lemmas.List.{length-replicate, length-take}
use Rattle.std.proofs.lemmas.List.Sums.{sum_by-cons}
use Rattle.boot_machine.specs.Prelude.{Files, fill_with_zeros, contents}
use Rattle.uki_parts.specs.declared.part.Part.{Part}
use Rattle.uki_parts.specs.declared.piece.Piece.{Piece}
use Rattle.uki_parts.specs.declared.piece.Piece.TheVariants as pieces
use Rattle.uki_parts.specs.Pieces.{Reading, file_length}
use Rattle.pe_builder.specs.declared.plan.ImageLayout.{ImageLayout}
use Rattle.pe_builder.specs.Known.{planned_before, planned_stub_length}
use Rattle.image_writer.specs.Chunks.{behind_stub, gap, given_bytes, padded_part, new_stub_bytes}
use Rattle.image_writer.specs.Sourced.{IsSourced, new_sbat, part_list, planned_image, stub_path}
use Rattle.image_writer.specs.Taken.{part_reading, writing_length}
use Rattle.image_writer.specs.declared.sources.Sources.{Sources}
use Rattle.image_writer.proofs.Assembled.{finished_bytes, stub_kept}
use Rattle.image_writer.proofs.PlannedImages.{planned_image-one}

filled_long : (bytes : List ℕ) (count : ℕ) → count ≤ length (fill_with_zeros bytes count)
filled_long bytes count = omega (arith, length-append (take count bytes) (replicate (count - length bytes) 0), length-take count bytes, length-replicate {A = ℕ} (count - length bytes) 0)

piece_long : (files : Reading) (piece : Piece) → file_length piece ≤ length (given_bytes files piece)
piece_long files (pieces.Bytes bytes) = omega arith
piece_long files (pieces.File path size) = omega (arith, filled_long (files path) (size - 0))
piece_long files (pieces.Zeros count) = omega arith

pieces_long : (files : Reading) (list : List Piece) → sum_by file_length list ≤ length (flat_map (given_bytes files) list)
pieces_long files [] = omega arith
pieces_long files (piece ∷ list) =
    omega (
      arith,
      sum_by-cons file_length piece list,
      piece_long files piece,
      pieces_long files list,
      length-append (given_bytes files piece) (flat_map (given_bytes files) list),
    )

part_long : (files : Reading) (unit : ℕ) (part : Part) → part_reading part ≤ length (padded_part files unit part)
part_long files unit part =
    omega (arith, pieces_long files part.pieces.items, length-append (flat_map (given_bytes files) part.pieces.items) (replicate (gap unit part.length) 0))

parts_long : (files : Reading) (unit : ℕ) (parts : List Part) → sum_by part_reading parts ≤ length (flat_map (padded_part files unit) parts)
parts_long files unit [] = omega arith
parts_long files unit (part ∷ parts) =
    omega (
      arith,
      sum_by-cons part_reading part parts,
      part_long files unit part,
      parts_long files unit parts,
      length-append (padded_part files unit part) (flat_map (padded_part files unit) parts),
    )

behind_long : (files : Reading) (unit n : ℕ) (parts : List Part) → sum_by part_reading parts ≤ length (behind_stub files unit n parts)
behind_long files unit n [] = omega arith
behind_long files unit n (part ∷ parts) =
    omega (arith, parts_long files unit (part ∷ parts), length-append (replicate (gap unit n) 0) (flat_map (padded_part files unit) (part ∷ parts)))

-- An image has at least as many bytes as are read to write it.
pub writing_within : (plan : ImageLayout) (sources : Sources) (view : Files) → IsSourced plan sources view → writing_length plan sources ≤ length (planned_image plan sources view)
writing_within plan sources view sourced =
    let files = contents view in
    let stub = files (stub_path sources) in
    let parts = part_list sources in
    let front = new_stub_bytes plan stub (new_sbat sources) in
    let back = behind_stub files (planned_before plan).file_alignment (planned_stub_length plan) parts in
    let is : front ++ back ≡ planned_image plan sources view =
    planned_image-one plan sources view (front ++ back) sourced (finished_bytes plan stub (new_sbat sources) files parts sourced.plan_is sourced.pieced) in
    omega (
      arith,
      ap length is,
      length-append front back,
      stub_kept plan stub (new_sbat sources) _ sourced.plan_is,
      behind_long files (planned_before plan).file_alignment (planned_stub_length plan) parts,
    )
