-- Both folders are read.
use Rattle.std.proofs.Common.{refl}
use Rattle.boot_entries.proofs.folders.Folders.of.Goals as goal

pub returns-clause-ok : goal.returns-clause-ok
returns-clause-ok c = rw (c.in_ok-entries.ensures.ok, c.in_ok-images.ensures.ok) refl
