-- What the words after a command and its verb mean: options with their values, and operands.
use Rattle.std.specs.Prelude.{ℕ, ◌==◌, Bool, true, false, ◌&&◌, List, [], ◌∷◌, length, map, filter_map, Option, Some, None, is_none, Result, Ok, Err, nat_eq, nat_lt, find, codes, if◌then◌else◌}
use Rattle.std.specs.List.{starts_with, before_first, after_first, position_or_len, last_or}
use Rattle.std.specs.Str.{bytes_eq}
use Rattle.word_grammar.specs.declared.grammar.CommandName.{CommandName}
use Rattle.word_grammar.specs.declared.grammar.Takes.{Takes}
use Rattle.word_grammar.specs.declared.grammar.Takes.TheVariants.{Required, Once, Repeated, Flag}
use Rattle.word_grammar.specs.declared.grammar.ValueKind.{ValueKind}
use Rattle.word_grammar.specs.declared.grammar.ValueKind.TheVariants.{Any, Bank}
use Rattle.pcr_values.specs.Banks.{bank_named}
use Rattle.tool_words.specs.declared.fault.UsageReason.{UsageReason}
use Rattle.tool_words.specs.declared.fault.UsageReason.TheVariants.{UnknownOption, NeedsValue, TakesNoValue, UnknownBank}
use Rattle.word_grammar.specs.Grammar.{Word, OptionRule, row, is_text_of}

-- the value goes on where there is one, the first reason stays
infixl 10 ◌>>=◌
abbrev pub ◌>>=◌ : {A B : Type 0} → Result A UsageReason → (A → Result B UsageReason) → Result B UsageReason
(Ok x) >>= f = f x
(Err reason) >>= f = Err reason

-- an option's text with its value, which is empty for a flag; or an operand
pub data Item : Type 0 where
  Value : Word → Word → Item
  Operand : Word → Item

-- what a word says before a word `--`: that no option follows, an operand,
-- an option with what is given in the same word, or an option whose value is the next word
pub data Said : Type 0 where
  Ends : Said
  Plain : Said
  Whole : Word → Word → Said
  Open : OptionRule → Said

-- the byte `=`
abbrev pub is_equals_sign : ℕ → Bool
is_equals_sign b = b == 61

-- whether a word has that byte
abbrev pub has_equals : Word → Bool
has_equals word = nat_lt (position_or_len is_equals_sign word) (length word)

-- whether an option stands alone, without a value
abbrev pub is_flag : Takes → Bool
is_flag Flag = true
is_flag Required = false
is_flag Once = false
is_flag Repeated = false

-- whether the values of an option are names of banks
abbrev pub are_banks : ValueKind → Bool
are_banks Bank = true
are_banks Any = false

-- a value as the option takes it: where its values are banks, a bank has it as its name
abbrev pub check_value : OptionRule → Word → Result Word UsageReason
check_value option value =
    if are_banks option.value && is_none (bank_named value) then Err (UnknownBank value) else Ok value

-- the option of the command that is written so
abbrev pub known_option : Option OptionRule → Word → Result OptionRule UsageReason
known_option None text = Err (UnknownOption text)
known_option (Some option) text = Ok option

-- the option of a command that is written so, or that there is none
abbrev pub option_of : CommandName → Word → Result OptionRule UsageReason
option_of command text = known_option (find (is_text_of text) (row command).options) text

-- an option in a word with a `=`
abbrev pub with_value : OptionRule → Word → Result Said UsageReason
with_value option value =
    if is_flag option.takes then Err (TakesNoValue option.text)
    else (check_value option value >>= λ value. Ok (Whole option.text value))

-- an option in a word without one
abbrev pub without_value : OptionRule → Said
without_value option = if is_flag option.takes then Whole option.text [] else Open option

-- a word that begins with `--` and is longer is split at its first `=`
abbrev pub option_said : CommandName → Word → Result Said UsageReason
option_said command word =
    if has_equals word
    then (option_of command (before_first is_equals_sign word)
    >>= λ option. with_value option (after_first is_equals_sign word))
    else (option_of command word >>= λ option. Ok (without_value option))

-- what a word of a command says, or the first reason why it says nothing
abbrev pub word_meaning : CommandName → Word → Result Said UsageReason
word_meaning command word =
    if bytes_eq word (codes "--") then Ok Ends
    else (if starts_with nat_eq word (codes "--") then option_said command word
    else (if starts_with nat_eq word (codes "-") && nat_lt 1 (length word) then Err (UnknownOption word)
    else Ok Plain))

-- an item in front of the others, or the reason why there are no others
abbrev pub onto : Item → Result (List Item) UsageReason → Result (List Item) UsageReason
onto item items = items >>= λ more. Ok (item ∷ more)

-- the items of a last word
abbrev pub last_items : Word → Said → Result (List Item) UsageReason
last_items word Ends = Ok []
last_items word Plain = Ok (Operand word ∷ [])
last_items word (Whole text value) = Ok (Value text value ∷ [])
last_items word (Open option) = Err (NeedsValue word)

-- the items of a word with words after it: `later` are those of the words after it, `latest` those of the words after
-- the next
abbrev pub more_items : Word → Word → List Word → Said → Result (List Item) UsageReason
    → Result (List Item) UsageReason → Result (List Item) UsageReason
more_items word next words Ends later latest = Ok (map Operand (next ∷ words))
more_items word next words Plain later latest = onto (Operand word) later
more_items word next words (Whole text value) later latest = onto (Value text value) later
more_items word next words (Open option) later latest =
    check_value option next >>= λ value. onto (Value option.text value) latest

-- the items of the words from the left, or the first word's reason that has one
unfoldable pub items : CommandName → List Word → Result (List Item) UsageReason
items command [] = Ok []
items command (word ∷ []) = word_meaning command word >>= λ s. last_items word s
items command (word ∷ next ∷ words) =
    word_meaning command word >>= λ s. more_items word next words s (items command (next ∷ words)) (items command words)

-- the value that the item gives the option that is written so
abbrev pub item_value : Word → Item → Option Word
item_value option (Value text value) = if bytes_eq text option then Some value else None
item_value option (Operand word) = None

-- the operand that the item is
abbrev pub operand_in : Item → Option Word
operand_in (Value text value) = None
operand_in (Operand word) = Some word

-- all values of an option, in order
abbrev pub all_values : Word → List Item → List Word
all_values option items = filter_map (item_value option) items

-- the value of an option that isn't repeatable: the last one
abbrev pub last_option_value : Word → List Item → Option Word
last_option_value option items = last_or None (all_values option items)

-- the operands among items
abbrev pub operands : List Item → List Word
operands items = filter_map operand_in items
