use Rattle.std.proofs.Common.{◌≡◌, [], drop, slice_index_or}
use Rattle.tool_words.specs.Items.{operands}
use Rattle.tool_words.specs.Shown.{items_shown}
use Rattle.tool_words.proofs.values.operand_at.Given as goal

abbrev pub invariant-loop-item : goal.invariant-loop-item
invariant-loop-item l = slice_index_or (operands (items_shown (drop l.item-index l.items))) l.left [] ≡ slice_index_or (operands (items_shown l.items)) l.fn.place []
