-- What the items of a list of words begin with, by what its first word says.
use Rattle.std.proofs.Common.{◌≡◌, List, [], ◌∷◌, map, Result, Ok, Err, ap, ◌∙◌, refl}
use Rattle.word_grammar.specs.declared.grammar.CommandName.{CommandName}
use Rattle.tool_words.specs.declared.fault.UsageReason.{UsageReason}
use Rattle.tool_words.specs.declared.fault.WordsFault.{WordsFault}
use Rattle.tool_words.specs.declared.fault.WordsFault.TheVariants.{Memory, Usage}
use Rattle.word_grammar.specs.Grammar.{Word, OptionRule}
use Rattle.tool_words.specs.Items.{Item, Value, Operand, Ends, Plain, Whole, Open, items, onto, check_value, word_meaning, last_items, more_items, ◌>>=◌}
use Rattle.tool_words.specs.Answers.{FaultIs}
use Rattle.tool_words.specs.Steps.{with_next_word}

pub items-ends : (command : CommandName) (word : Word) (after : List Word) → word_meaning command word ≡ Ok Ends → items command (word ∷ after) ≡ Ok (map Operand after)
unfolding items
items-ends command word [] e = ap (λ r. r >>= last_items word) e
items-ends command word (next ∷ words) e = ap (λ r. r >>= λ s. more_items word next words s (items command (next ∷ words)) (items command words)) e

pub items-plain : (command : CommandName) (word : Word) (after : List Word) → word_meaning command word ≡ Ok Plain → items command (word ∷ after) ≡ onto (Operand word) (items command after)
unfolding items
items-plain command word [] e = ap (λ r. r >>= last_items word) e
items-plain command word (next ∷ words) e = ap (λ r. r >>= λ s. more_items word next words s (items command (next ∷ words)) (items command words)) e

pub items-whole : (command : CommandName) (word : Word) (text : Word) (value : Word) (after : List Word)
    → word_meaning command word ≡ Ok (Whole text value) → items command (word ∷ after) ≡ onto (Value text value) (items command after)
unfolding items
items-whole command word text value [] e = ap (λ r. r >>= last_items word) e
items-whole command word text value (next ∷ words) e = ap (λ r. r >>= λ s. more_items word next words s (items command (next ∷ words)) (items command words)) e

pub items-said_err : (command : CommandName) (word : Word) (after : List Word) (fault : WordsFault) → FaultIs fault (word_meaning command word) → FaultIs fault (items command (word ∷ after))
unfolding items
items-said_err command word after Memory e = tt
items-said_err command word [] (Usage reason) e = ap (λ r. r >>= last_items word) e
items-said_err command word (next ∷ words) (Usage reason) e = ap (λ r. r >>= λ s. more_items word next words s (items command (next ∷ words)) (items command words)) e

with_next_word-bind : (command : CommandName) (option : OptionRule) (words : List Word) (r : Result Word UsageReason) → (r >>= λ value. onto (Value option.text value) (items command words)) ≡ (◌>>=◌ {A = Word} {B = Item × List Word} r (λ value. Ok (Value option.text value, words)) >>= λ o. onto o.0 (items command o.1))
with_next_word-bind command option words (Ok value) = refl
with_next_word-bind command option words (Err reason) = refl

pub items-open : (command : CommandName) (word : Word) (option : OptionRule) (after : List Word) → word_meaning command word ≡ Ok (Open option)
    → items command (word ∷ after) ≡ (with_next_word option word after >>= λ o. onto o.0 (items command o.1))
unfolding items
items-open command word option [] e = ap (λ r. r >>= last_items word) e
items-open command word option (next ∷ words) e =
    ap (λ r. r >>= λ s. more_items word next words s (items command (next ∷ words)) (items command words)) e
    ∙ with_next_word-bind command option words (check_value option next)

pub items-with_next_word : (command : CommandName) (word : Word) (option : OptionRule) (after : List Word) (item : Item) (rest : List Word)
    → word_meaning command word ≡ Ok (Open option) → with_next_word option word after ≡ Ok (item, rest) → items command (word ∷ after) ≡ onto item (items command rest)
items-with_next_word command word option after item rest e o = items-open command word option after e ∙ ap (λ r. r >>= λ o. onto o.0 (items command o.1)) o

pub items-opened_err : (command : CommandName) (word : Word) (option : OptionRule) (after : List Word) (fault : WordsFault)
    → word_meaning command word ≡ Ok (Open option) → FaultIs fault (with_next_word option word after) → FaultIs fault (items command (word ∷ after))
items-opened_err command word option after Memory e o = tt
items-opened_err command word option after (Usage reason) e o = items-open command word option after e ∙ ap (λ r. r >>= λ o. onto o.0 (items command o.1)) o
