use Rattle.std.proofs.Common.{map, string_bytes, take, flat_map}
use Rattle.std.specs.Fmt.{HasWritten, IsPlainFormatter}
use Rattle.pcr_values.proofs.PhaseWords.{behind_colon}
use Rattle.pcr_values.proofs.phase_path.PhasePathDisplay.fmt.Given as goal

abbrev pub invariant-loop-word : goal.invariant-loop-word
invariant-loop-word g l =
    IsPlainFormatter l.initial.f
    → HasWritten g.W.Write.write_str_gives l.initial.f (flat_map behind_colon (map string_bytes (take l.word-index l.rest))) l.f
