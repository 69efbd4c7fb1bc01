use Rattle.std.proofs.Common.{◌≡◌, ◌++◌, map, take}
use Rattle.boot_texts.specs.FileLines.{key_line, text_of_lines}
use Rattle.boot_texts.proofs.payload_entry.add_each.Given as goal

abbrev pub invariant-loop-value : goal.invariant-loop-value
invariant-loop-value l = l.made.items ≡ l.initial.made.items ++ text_of_lines (map (key_line l.key) (take l.value-index l.value-items))
