-- A good entry stays.
use Rattle.boot_history.proofs.Standing.{good_entry_law, listed_law}
use Rattle.boot_history.proofs.good_entry_law.Goals as goal

pub returns : goal.returns
returns c = record { stays = good_entry_law; listed = listed_law }
