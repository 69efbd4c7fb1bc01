use Rattle.std.proofs.Common.{◌≡◌, ◌++◌, map, take}
use Rattle.tool_words.specs.Items.{Operand}
use Rattle.tool_words.specs.Shown.{texts, items_shown}
use Rattle.tool_words.proofs.scan.push_operands.Given as goal

abbrev pub invariant-loop-word : goal.invariant-loop-word
invariant-loop-word l = items_shown l.items.items ≡ items_shown l.fn.items.items ++ map Operand (texts (take l.word-index l.words))
