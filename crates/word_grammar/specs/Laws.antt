-- The tables are a grammar: what is found by words is what has them.
use Rattle.std.specs.Prelude.{◌≡◌, map, Option, None, Some, is_some, find, IfSome}
use Rattle.word_grammar.specs.declared.grammar.CommandName.{CommandName}
use Rattle.word_grammar.specs.Grammar.{Word, row, commands, is_name_of, is_verbed, is_text_of}

-- the first command with these words
abbrev pub with_words : Word → Option Word → Option CommandName
with_words name None = find (is_name_of name) commands
with_words name (Some verb) = find (is_verbed name verb) commands

-- each command is found by its own words, so no two have the same
abbrev pub WordsFindTheirCommand : Type 0
WordsFindTheirCommand = (c : CommandName) → with_words (row c).name (row c).verb ≡ Some c

-- each option of a command is found by its own text, so no two of a command have the same
abbrev pub TextsFindTheirOption : Type 0
TextsFindTheirOption =
    (c : CommandName) → map (λ option. find (is_text_of option.text) (row c).options) (row c).options
    ≡ map Some (row c).options

-- a command has a verb where the first command of its name has one
abbrev pub NamesHaveVerbsOrNone : Type 0
NamesHaveVerbsOrNone =
    (c : CommandName) → IfSome (find (is_name_of (row c).name) commands)
    (λ first. is_some (row first).verb ≡ is_some (row c).verb)
