-- No reply is empty.
use Rattle.boot_run.proofs.Replying.{none_empty}
use Rattle.boot_history.proofs.reply_law.Goals as goal

pub returns : goal.returns
returns c = none_empty
