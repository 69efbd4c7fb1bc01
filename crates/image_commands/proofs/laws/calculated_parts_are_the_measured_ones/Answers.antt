use Rattle.image_commands.proofs.Parts.{names_of_parts}
use Rattle.image_commands.proofs.laws.calculated_parts_are_the_measured_ones.Goals as goal

pub returns : goal.returns
returns c = names_of_parts
