use Rattle.std.proofs.Common.{ap}
use Rattle.tool_words.specs.declared.command.Command.TheVariants as command
use Rattle.tool_words.specs.declared.command.One.TheVariants as one
use Rattle.tool_words.proofs.fill.build.Goals as goal

pub returns : goal.returns
returns c = ap (λ words. command.One (one.Build words)) (λ i. record {
  stub = c.in_ok-required_value.ensures i;
  linux = c.in_ok-required_value-2.ensures i;
  output = c.in_ok-required_value-3.ensures i;
  parts = c.in_ok-build_parts.ensures i;
  initrds = c.in_ok-all_values.ensures i;
  sections = c.in_ok-all_values-2.ensures i;
  measure = c.is_given.ensures i;
})
