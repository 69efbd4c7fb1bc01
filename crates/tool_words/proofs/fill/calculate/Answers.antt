use Rattle.std.proofs.Common.{ap}
use Rattle.tool_words.specs.declared.command.Command.TheVariants as command
use Rattle.tool_words.specs.declared.command.One.TheVariants as one
use Rattle.tool_words.proofs.fill.calculate.Goals as goal

pub returns : goal.returns
returns c = ap (λ words. command.One (one.Calculate words)) (λ i. record {
  linux = c.in_ok-required_value.ensures i;
  initrd = c.in_ok-optional_value.ensures i;
  parts = c.in_ok-calculate_parts.ensures i;
  banks = c.in_ok-all_values.ensures i;
  phases = c.in_ok-all_values-2.ensures i;
  json = c.is_given.ensures i;
})
