use Rattle.std.proofs.Common.{rules}
use Rattle.boot_machine.proofs.Reading.{looks_on}
use Rattle.type1_install.proofs.alike.same_piece.Goals as goal

pub returns-in_err-again-clause-looks : goal.returns-in_err-again-clause-looks
returns-in_err-again-clause-looks g c = looks_on c.read_piece.ensures.looks c.read_piece-2.ensures.looks (search rules)

pub returns-then-eq-clause-looks : goal.returns-then-eq-clause-looks
returns-then-eq-clause-looks g c = looks_on c.read_piece.ensures.looks c.read_piece-2.ensures.looks (search rules)

pub returns-else-eq-clause-looks : goal.returns-else-eq-clause-looks
returns-else-eq-clause-looks g c = looks_on c.read_piece.ensures.looks c.read_piece-2.ensures.looks (search rules)
