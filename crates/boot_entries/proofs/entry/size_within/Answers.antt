-- One call is made.
use Rattle.std.proofs.Common.{rules}
use Rattle.boot_machine.proofs.Reading.{looks_once}
use Rattle.boot_entries.proofs.entry.size_within.Goals as goal

pub returns-in_err-size-clause-looks : goal.returns-in_err-size-clause-looks
returns-in_err-size-clause-looks g c = looks_once (g.met.M.Machine.only_now c.args.machine.now) c.size.ensures.moments (λ told. (c.size.ensures.row told).same) (search rules)

pub returns-in-Some-clause-looks : goal.returns-in-Some-clause-looks
returns-in-Some-clause-looks g c = looks_once (g.met.M.Machine.only_now c.args.machine.now) c.size.ensures.moments (λ told. (c.size.ensures.row told).same) (search rules)

pub returns-in_default-clause-looks : goal.returns-in_default-clause-looks
returns-in_default-clause-looks g c = looks_once (g.met.M.Machine.only_now c.args.machine.now) c.size.ensures.moments (λ told. (c.size.ensures.row told).same) (search rules)

pub returns-in_default-2-clause-looks : goal.returns-in_default-2-clause-looks
returns-in_default-2-clause-looks g c = looks_once (g.met.M.Machine.only_now c.args.machine.now) c.size.ensures.moments (λ told. (c.size.ensures.row told).same) (search rules)
