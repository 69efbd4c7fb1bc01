-- Keeping the newest.
use Rattle.boot_history.proofs.Newest.{keep_spares_law, newest_law, told_law, unrefused_law}
use Rattle.boot_history.proofs.newest_law.Goals as goal

pub returns : goal.returns
returns c = record { newest = newest_law; told = told_law; unrefused = unrefused_law; spares = keep_spares_law }
