use Rattle.std.proofs.Common.{rules}
use Rattle.boot_machine.proofs.Reading.{looks_on}
use Rattle.type1_install.proofs.placing.is_copied.Goals as goal

pub returns-in_err-are_alike-in-Ok-clause-looks : goal.returns-in_err-are_alike-in-Ok-clause-looks
returns-in_err-are_alike-in-Ok-clause-looks g c = looks_on c.readable_size.ensures.looks c.are_alike.ensures.looks (search rules)

pub returns-in_ok-are_alike-in-Ok-clause-looks : goal.returns-in_ok-are_alike-in-Ok-clause-looks
returns-in_ok-are_alike-in-Ok-clause-looks g c = looks_on c.readable_size.ensures.looks c.are_alike.ensures.looks (search rules)
