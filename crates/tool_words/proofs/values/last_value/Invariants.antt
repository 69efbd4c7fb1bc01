use Rattle.std.proofs.Common.{◌≡◌, drop, option_copied}
use Rattle.std.specs.List.{last_or}
use Rattle.tool_words.specs.Items.{all_values, last_option_value}
use Rattle.tool_words.specs.Shown.{items_shown}
use Rattle.tool_words.proofs.values.last_value.Given as goal

abbrev pub invariant-loop-item : goal.invariant-loop-item
invariant-loop-item l = last_or (option_copied l.last) (all_values l.option (items_shown (drop l.item-index l.items))) ≡ last_option_value l.option (items_shown l.items)
