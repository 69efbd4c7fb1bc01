use Rattle.std.proofs.Common.{rules}
use Rattle.boot_machine.proofs.Reading.{looks_on}
use Rattle.image_commands.proofs.identify.kind.Goals as goal

pub returns-in-Ok-clause-looks : goal.returns-in-Ok-clause-looks
returns-in-Ok-clause-looks g c = looks_on c.readable_size.ensures.looks c.read_head.ensures.looks (search rules)

pub returns-in-Err-NotPe-clause-looks : goal.returns-in-Err-NotPe-clause-looks
returns-in-Err-NotPe-clause-looks g c = looks_on c.readable_size.ensures.looks c.read_head.ensures.looks (search rules)

pub returns-in-Err-Memory-clause-looks : goal.returns-in-Err-Memory-clause-looks
returns-in-Err-Memory-clause-looks g c = looks_on c.readable_size.ensures.looks c.read_head.ensures.looks (search rules)

pub returns-in-Err-Disk-clause-looks : goal.returns-in-Err-Disk-clause-looks
returns-in-Err-Disk-clause-looks g c = looks_on c.readable_size.ensures.looks c.read_head.ensures.looks (search rules)
