use Rattle.std.proofs.Common.{◌∙◌, sym}
use Rattle.std.proofs.lemmas.Option.{some_pair_parts}
use Rattle.boot_texts.specs.TextLines.{lines_of}
use Rattle.boot_texts.proofs.LastValue.{last_value-none, last_value-some, values_of-all}
use Rattle.boot_texts.specs.EntryLines.{EntryLine, entry_reading}
use Rattle.boot_texts.proofs.EntryReading.{complete, sound}
use Rattle.boot_texts.proofs.entry_values.entry_lines_are_read_in_one_way.Goals as goal

pub returns-clause-reading : goal.returns-clause-reading
returns-clause-reading c = λ line key value. (sound line (key, value), complete line (key, value))

pub returns-clause-once : goal.returns-clause-once
returns-clause-once c = λ line key value other_key other one another.
    some_pair_parts key other_key value other (sym (complete line (key, value) one) ∙ complete line (other_key, other) another)

pub returns-clause-last : goal.returns-clause-last
returns-clause-last c = λ text key value. last_value-some entry_reading EntryLine sound complete key (lines_of text) value

pub returns-clause-none : goal.returns-clause-none
returns-clause-none c = λ text key. last_value-none entry_reading EntryLine sound complete key (lines_of text)

pub returns-clause-all : goal.returns-clause-all
returns-clause-all c = λ text key values. values_of-all entry_reading EntryLine sound complete key (lines_of text) values
