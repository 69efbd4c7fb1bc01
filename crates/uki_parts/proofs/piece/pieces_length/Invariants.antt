use Rattle.std.proofs.Common.{◌≡◌, ◌-◌, ◌^◌, min, take}
use Rattle.uki_parts.specs.Pieces.{total_length}
use Rattle.uki_parts.proofs.piece.pieces_length.Given as goal

abbrev pub invariant-loop-piece : goal.invariant-loop-piece
invariant-loop-piece l = l.length ≡ min (total_length (take l.piece-index l.pieces)) (2 ^ 64 - 1)
