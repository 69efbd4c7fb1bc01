use Rattle.std.proofs.Common.{rules}
use Rattle.boot_machine.proofs.Reading.{looks_on}
use Rattle.command_plans.proofs.files.image_head.Goals as goal

pub returns-clause-looks : goal.returns-clause-looks
returns-clause-looks g c = looks_on c.readable_size.ensures.looks c.sized_head.ensures.looks (search rules)
