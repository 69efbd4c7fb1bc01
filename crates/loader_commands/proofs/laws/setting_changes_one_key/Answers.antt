use Rattle.loader_commands.proofs.Told.{changes}
use Rattle.loader_commands.proofs.laws.setting_changes_one_key.Goals as goal

pub returns : goal.returns
returns c = changes
