use Rattle.std.proofs.Common.{◌≡◌, flat_map}
use Rattle.uki_parts.specs.Initrds.{padded_piece}
use Rattle.uki_parts.proofs.initrds.join_padded.Given as goal

abbrev pub invariant-loop-file : goal.invariant-loop-file
invariant-loop-file l = l.joined.items ≡ flat_map padded_piece l.yielded
