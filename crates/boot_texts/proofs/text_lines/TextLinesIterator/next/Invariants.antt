use Rattle.std.proofs.Common.{◌≡◌, ◌+◌, length}
use Rattle.std.specs.Option.{option_copied, option_map_or}
use Rattle.boot_texts.specs.TextLines.{counted_lines, pieces_of}
use Rattle.boot_texts.proofs.text_lines.TextLinesIterator.next.Given as goal

abbrev pub invariant-loop-self : goal.invariant-loop-self
invariant-loop-self l =
    counted_lines (pieces_of (option_copied l.self-inside.rest)) ≡ counted_lines (pieces_of (option_copied l.initial.self-inside.rest))

abbrev pub decreases-loop-self : goal.decreases-loop-self
decreases-loop-self l = option_map_or (λ text. length text.now + 1) l.self-inside.rest 0
