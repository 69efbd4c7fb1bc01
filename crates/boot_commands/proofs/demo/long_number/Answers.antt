use Rattle.std.proofs.Common.{sym, ◌∙◌}
use Rattle.boot_commands.proofs.Numbers.{no_number, number_there, number_too_large}
use Rattle.boot_commands.proofs.demo.long_number.Goals as goal

pub returns-then-not-is_long_number : goal.returns-then-not-is_long_number
returns-then-not-is_long_number c = sym (no_number c.args.word.now (sym c.is_long_number.ensures ∙ c.if-not-is_long_number.true))

pub returns-in-Ok : goal.returns-in-Ok
returns-in-Ok c = sym (number_there c.args.word.now c.parse.result c.in-Ok.number (sym c.is_long_number.ensures ∙ c.if-not-is_long_number.false) c.parse.ensures.value.0 c.in-Ok.is)

pub returns-in-Err : goal.returns-in-Err
returns-in-Err c = sym (number_too_large c.args.word.now c.parse.result c.in-Err.field-0 (sym c.is_long_number.ensures ∙ c.if-not-is_long_number.false) c.parse.ensures.value.0 c.in-Err.is)
