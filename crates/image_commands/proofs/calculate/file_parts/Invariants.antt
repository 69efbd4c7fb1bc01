use Rattle.std.proofs.Common.{◌≡◌, map, take, All}
use Rattle.stub_replay.specs.Parts.{HaveSizes, IsPlaced, named_bytes}
use Rattle.uki_parts.specs.Pieces.{Reading}
use Rattle.image_commands.specs.Parts.{HasItsSize, named_file}
use Rattle.image_commands.proofs.calculate.file_parts.Given as goal

abbrev pub invariant-loop-name : goal.invariant-loop-name
invariant-loop-name l = record {
  bytes : (reading : Reading) → map (named_bytes reading) l.parts.items ≡ map (named_file reading) (take l.name-index l.files);
  sizes : (reading : Reading) → All (HasItsSize reading) l.files → HaveSizes reading l.parts.items;
  ranges : All (λ part. IsPlaced part.content) l.parts.items;
}
