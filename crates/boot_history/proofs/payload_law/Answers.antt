use Rattle.boot_history.proofs.Payloads.{cleanup_keeps, install_keeps}
use Rattle.boot_history.proofs.PayloadsNewest.{keep_keeps}
use Rattle.boot_history.proofs.PayloadsStay.{payload_law}
use Rattle.boot_history.proofs.payload_law.Goals as goal

pub returns-clause-stays : goal.returns-clause-stays
returns-clause-stays c = payload_law

pub returns-clause-installs : goal.returns-clause-installs
returns-clause-installs c = install_keeps

pub returns-clause-cleanups : goal.returns-clause-cleanups
returns-clause-cleanups c = cleanup_keeps

pub returns-clause-removals : goal.returns-clause-removals
returns-clause-removals c = keep_keeps
