use Rattle.loader_commands.proofs.Told.{tells}
use Rattle.loader_commands.proofs.laws.show_tells_of_the_default.Goals as goal

pub returns : goal.returns
returns c = tells
