use Rattle.std.proofs.Common.{rules}
use Rattle.boot_machine.proofs.Reading.{looks_once}
use Rattle.type1_install.proofs.cleanup.names_in.Goals as goal

pub returns-in_err-names-clause-looks : goal.returns-in_err-names-clause-looks
returns-in_err-names-clause-looks g c = looks_once (g.met.M.Machine.only_now c.args.machine.now) c.names.ensures.moments (λ told. (c.names.ensures.row told).same) (search rules)

pub returns-clause-looks : goal.returns-clause-looks
returns-clause-looks g c = looks_once (g.met.M.Machine.only_now c.args.machine.now) c.names.ensures.moments (λ told. (c.names.ensures.row told).same) (search rules)
