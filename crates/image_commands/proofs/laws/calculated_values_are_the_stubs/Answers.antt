use Rattle.image_commands.proofs.Printed.{calculated_values}
use Rattle.image_commands.proofs.laws.calculated_values_are_the_stubs.Goals as goal

pub returns : goal.returns
returns c = calculated_values
