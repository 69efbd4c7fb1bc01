use Rattle.std.proofs.Common.{length}
use Rattle.tool_words.specs.Shown.{texts, items_shown}
use Rattle.tool_words.proofs.Scans.{Reads}
use Rattle.tool_words.proofs.scan.read_items.Given as goal

abbrev pub invariant-loop-word : goal.invariant-loop-word
invariant-loop-word l = Reads (items_shown l.items.items) l.command (texts l.words) (texts l.rest)

abbrev pub decreases-loop-word : goal.decreases-loop-word
decreases-loop-word l = length l.rest
