-- What the code's table holds, as the definitions see it.
use Rattle.std.specs.Prelude.{map}
use Rattle.std.specs.Option.{option_copied}
use Rattle.word_grammar.specs.declared.grammar.CommandRow.{CommandRow}
use Rattle.word_grammar.specs.declared.grammar.OptionRow.{OptionRow}
use Rattle.word_grammar.specs.Grammar.{OptionRule, Row}

-- an option of the code's table
abbrev pub option_shown : OptionRow → OptionRule
option_shown o = record { text = o.text.now; takes = o.takes; value = o.value }

-- a line of the code's table
abbrev pub row_shown : CommandRow → Row
row_shown r = record {
  name = r.name.now;
  verb = option_copied r.verb;
  operands = r.operands;
  options = map option_shown r.options.now;
}
