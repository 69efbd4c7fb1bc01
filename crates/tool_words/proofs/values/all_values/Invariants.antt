use Rattle.std.proofs.Common.{◌≡◌, ◌++◌, drop}
use Rattle.tool_words.specs.Items.{all_values}
use Rattle.tool_words.specs.Shown.{items_shown}
use Rattle.tool_words.proofs.values.all_values.Given as goal

abbrev pub invariant-loop-item : goal.invariant-loop-item
invariant-loop-item l = l.list ++ all_values l.option (items_shown (drop l.item-index l.items)) ≡ all_values l.option (items_shown l.items)
