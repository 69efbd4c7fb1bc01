use Rattle.memory_machine.proofs.Distinct.{no_files}
use Rattle.boot_history.proofs.tests.empty_machine.Goals as goal

pub new-requires-2 : goal.new-requires-2
new-requires-2 c = no_files c.new.result.items c.new.ensures.items
