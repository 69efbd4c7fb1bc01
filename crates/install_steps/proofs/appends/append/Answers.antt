use Rattle.std.proofs.Common.{rules}
use Rattle.install_steps.proofs.Appending.{appends_once}
use Rattle.install_steps.specs.proofs.AppendLaws.{grown_once}
use Rattle.install_steps.proofs.appends.append.Goals as goal

pub returns-in_err-append-clause-appends : goal.returns-in_err-append-clause-appends
returns-in_err-append-clause-appends g c = appends_once c.args.bytes.now c.append.result (g.met.M.Machine.only_now c.args.machine.now) c.append.ensures.moments c.append.ensures.row (search rules)

pub returns-clause-appends : goal.returns-clause-appends
returns-clause-appends g c = appends_once c.args.bytes.now c.append.result (g.met.M.Machine.only_now c.args.machine.now) c.append.ensures.moments c.append.ensures.row (search rules)

pub returns-clause-grows : goal.returns-clause-grows
returns-clause-grows g c told = grown_once c.args.temp.now c.args.bytes.now _ _ (c.requires.there told) (c.in_ok-append.ensures.row told)
