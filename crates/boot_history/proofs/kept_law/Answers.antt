-- What each run keeps stays.
use Rattle.boot_history.proofs.Keeping.{kept_law}
use Rattle.boot_history.proofs.kept_law.Goals as goal

pub returns : goal.returns
returns c = kept_law
