use Rattle.std.proofs.Common.{◌≡◌, ◌+◌, ◌-◌, ◌≤◌, length, drop}
use Rattle.std.specs.List.{prefix_len}
use Rattle.boot_texts.specs.TextLines.{is_blank}
use Rattle.boot_texts.proofs.text_lines.without_front_blanks.Given as goal

abbrev pub invariant-loop-start : goal.invariant-loop-start
invariant-loop-start l =
    (l.start ≤ length l.line) × (prefix_len is_blank l.line ≡ l.start + prefix_len is_blank (drop l.start l.line))

abbrev pub decreases-loop-start : goal.decreases-loop-start
decreases-loop-start l = length l.line - l.start
