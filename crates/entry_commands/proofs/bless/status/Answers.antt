use Rattle.std.proofs.Common.{rules}
use Rattle.boot_machine.proofs.Reading.{looks_none}
use Rattle.entry_commands.proofs.bless.status.Goals as goal

pub returns-in_err-paths-clause-looks : goal.returns-in_err-paths-clause-looks
returns-in_err-paths-clause-looks g c = looks_none (g.met.M.Machine.only_now c.args.machine.now) (search rules)
