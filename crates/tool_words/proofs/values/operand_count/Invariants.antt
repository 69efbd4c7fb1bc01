use Rattle.std.proofs.Common.{◌≡◌, ◌≤◌, ◌+◌, length, drop}
use Rattle.tool_words.specs.Items.{operands}
use Rattle.tool_words.specs.Shown.{items_shown}
use Rattle.tool_words.proofs.values.operand_count.Given as goal

abbrev pub invariant-loop-item : goal.invariant-loop-item
invariant-loop-item l = (l.count ≤ l.item-index) × (l.count + length (operands (items_shown (drop l.item-index l.items))) ≡ length (operands (items_shown l.items)))
