use Rattle.std.proofs.Common.{◌≡◌, ◌++◌, take, flat_map}
use Rattle.pcr_values.specs.Prelude.{heading_of, line_after}
use Rattle.pcr_values.proofs.value_lines.append_lines.Given as goal

abbrev pub invariant-loop-start : goal.invariant-loop-start
invariant-loop-start l = l.out.items ≡ l.fn.out.items ++ (heading_of l.path ++ flat_map (line_after l.path) (take l.start-index l.starts))
