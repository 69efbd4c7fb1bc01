-- How the items are read, one after another.
use Rattle.std.specs.Prelude.{◌≡◌, List, [], ◌∷◌, map, Option, Some, None, Result, Ok, Err}
use Rattle.word_grammar.specs.declared.grammar.CommandName.{CommandName}
use Rattle.tool_words.specs.declared.fault.UsageReason.{UsageReason}
use Rattle.tool_words.specs.declared.fault.UsageReason.TheVariants.{NeedsValue}
use Rattle.tool_words.specs.declared.fault.WordsFault.{WordsFault}
use Rattle.tool_words.specs.declared.items.Next.{Next}
use Rattle.word_grammar.specs.Grammar.{Word, OptionRule}
use Rattle.tool_words.specs.Items.{Item, Value, Operand, items, onto, check_value, ◌>>=◌}
use Rattle.tool_words.specs.Answers.{FaultIs}
use Rattle.tool_words.specs.Shown.{item_shown, texts}

-- an option whose value is the next word, and the words after that
abbrev pub with_next_word : OptionRule → Word → List Word → Result (Item × List Word) UsageReason
with_next_word option word [] = Err (NeedsValue word)
with_next_word option word (next ∷ words) = check_value option next >>= λ value. Ok (Value option.text value, words)

-- the items of a word and those after it begin with the item that is answered
abbrev pub Steps : CommandName → Word → List Word → Result (Option Next) WordsFault → Type 0
Steps command word after (Ok None) = items command (word ∷ after) ≡ Ok (map Operand after)
Steps command word after (Ok (Some next)) =
    items command (word ∷ after) ≡ onto (item_shown next.item) (items command (texts next.rest.now))
Steps command word after (Err fault) = FaultIs fault (items command (word ∷ after))
