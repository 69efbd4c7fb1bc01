use Rattle.std.proofs.Common.{◌≡◌, length, drop, chars}
use Rattle.tool_words.specs.Line.{line_words}
use Rattle.tool_words.specs.LineSteps.{all_words}
use Rattle.tool_words.proofs.line.words_of.Given as goal

abbrev pub invariant-loop-c : goal.invariant-loop-c
invariant-loop-c l = all_words l.words (drop (length l.yielded) (chars l.line)) ≡ line_words (chars l.line)
