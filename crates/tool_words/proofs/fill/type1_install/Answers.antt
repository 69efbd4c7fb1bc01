use Rattle.std.proofs.Common.{ap}
use Rattle.tool_words.specs.declared.command.Command.TheVariants as command
use Rattle.tool_words.specs.declared.command.Several.TheVariants as several
use Rattle.tool_words.proofs.fill.type1_install.Goals as goal

pub returns : goal.returns
returns c = ap (λ words. command.Several (several.Type1Install words)) (λ i. record {
  name = c.in_ok-operand.ensures i;
  linux = c.in_ok-required_value.ensures i;
  initrds = c.in_ok-all_values.ensures i;
  texts = c.in_ok-entry_texts.ensures i;
  esp = c.in_ok-esp.ensures i;
})
