-- The size is asked for, and then the entry is read.
use Rattle.std.proofs.Common.{rules}
use Rattle.boot_machine.proofs.Reading.{looks_on}
use Rattle.boot_entries.proofs.entry.image_at.Goals as goal

pub returns-clause-looks : goal.returns-clause-looks
returns-clause-looks g c = looks_on c.size_within.ensures.looks c.uki_item.ensures.looks (search rules)
