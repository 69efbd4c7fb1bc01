use Rattle.std.proofs.Common.{rules}
use Rattle.boot_machine.proofs.Reading.{looks_none}
use Rattle.image_build.proofs.build_reads.given_sbat.Goals as goal

pub returns-in-None-clause-looks : goal.returns-in-None-clause-looks
returns-in-None-clause-looks g c = looks_none (g.met.M.Machine.only_now c.args.machine.now) (search rules)

pub returns-in-Some-Said-clause-looks : goal.returns-in-Some-Said-clause-looks
returns-in-Some-Said-clause-looks g c = looks_none (g.met.M.Machine.only_now c.args.machine.now) (search rules)
