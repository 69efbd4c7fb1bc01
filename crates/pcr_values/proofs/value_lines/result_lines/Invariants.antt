use Rattle.std.proofs.Common.{◌≡◌, take, flat_map}
use Rattle.pcr_values.proofs.ItemLines.{lines_of}
use Rattle.pcr_values.proofs.value_lines.result_lines.Given as goal

abbrev pub invariant-loop-path : goal.invariant-loop-path
invariant-loop-path l = l.out.items ≡ flat_map (lines_of l.starts) (take l.path-index l.paths)
