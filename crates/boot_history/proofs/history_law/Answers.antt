-- The law of histories.
use Rattle.boot_history.proofs.Counting.{history_law}
use Rattle.boot_history.proofs.Starting.{start_law}
use Rattle.boot_history.proofs.history_law.Goals as goal

pub returns : goal.returns
returns c = record { starts = start_law; numbers = history_law }
