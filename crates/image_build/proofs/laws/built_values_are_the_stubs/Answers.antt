use Rattle.image_build.proofs.Printed.{built_values}
use Rattle.image_build.proofs.laws.built_values_are_the_stubs.Goals as goal

pub returns : goal.returns
returns c = built_values
