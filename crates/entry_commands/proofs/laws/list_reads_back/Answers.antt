use Rattle.entry_commands.proofs.ListedJson.{list_reads_back}
use Rattle.entry_commands.proofs.laws.list_reads_back.Goals as goal

pub returns : goal.returns
returns c = list_reads_back
