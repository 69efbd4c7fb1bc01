use Rattle.std.proofs.Common.{rules}
use Rattle.boot_machine.proofs.Reading.{looks_on}
use Rattle.entry_commands.proofs.install.check_image.Goals as goal

pub returns-clause-looks : goal.returns-clause-looks
returns-clause-looks g c = looks_on c.readable_size.ensures.looks c.check_entry.ensures.looks (search rules)
