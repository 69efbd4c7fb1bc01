use Rattle.std.proofs.Common.{rules}
use Rattle.boot_machine.proofs.Reading.{looks_none}
use Rattle.image_build.proofs.build_reads.source_piece.Goals as goal

pub returns-in-Said-clause-looks : goal.returns-in-Said-clause-looks
returns-in-Said-clause-looks g c = looks_none (g.met.M.Machine.only_now c.args.machine.now) (search rules)
