use Rattle.std.proofs.Common.{rules}
use Rattle.boot_machine.proofs.Reading.{looks_none}
use Rattle.type1_install.proofs.placing.plan_remove.Goals as goal

pub returns-in_err-path-clause-looks : goal.returns-in_err-path-clause-looks
returns-in_err-path-clause-looks g c = looks_none (g.met.M.Machine.only_now c.args.machine.now) (search rules)
