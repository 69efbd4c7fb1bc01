use Rattle.std.proofs.Common.{◌≡◌, ◌++◌, filter, length}
use Rattle.boot_texts.specs.FileLines.{raw_lines, lacks_value, text_of_lines}
use Rattle.boot_texts.proofs.conf_change.other_lines.Given as goal

abbrev pub invariant-loop-rest : goal.invariant-loop-rest
invariant-loop-rest l = l.made.items ++ text_of_lines (filter (lacks_value l.key) (raw_lines l.rest)) ≡ text_of_lines (filter (lacks_value l.key) (raw_lines l.bytes))

abbrev pub decreases-loop-rest : goal.decreases-loop-rest
decreases-loop-rest l = length l.rest
