-- Nothing is read if a folder has no path.
use Rattle.std.proofs.Common.{rules}
use Rattle.boot_machine.proofs.Reading.{looks_none}
use Rattle.boot_entries.proofs.scanning.scan.Goals as goal

pub returns-in_err-folders-clause-looks : goal.returns-in_err-folders-clause-looks
returns-in_err-folders-clause-looks g c = looks_none (g.met.M.Machine.only_now c.args.machine.now) (search rules)
