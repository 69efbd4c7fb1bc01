use Rattle.image_build.proofs.CountedBuilds.{builds_countable}
use Rattle.image_build.proofs.laws.builds_are_countable.Goals as goal

pub returns : goal.returns
returns c = builds_countable
