use Rattle.std.proofs.Common.{rules}
use Rattle.boot_machine.proofs.Reading.{looks_none}
use Rattle.entry_commands.proofs.boot.boot_named.Goals as goal

pub returns-in_err-booted_text-clause-looks : goal.returns-in_err-booted_text-clause-looks
returns-in_err-booted_text-clause-looks g c = looks_none (g.met.M.Machine.only_now c.args.machine.now) (search rules)

pub returns-in_default-clause-looks : goal.returns-in_default-clause-looks
returns-in_default-clause-looks g c = looks_none (g.met.M.Machine.only_now c.args.machine.now) (search rules)

pub returns-in_err-to-clause-looks : goal.returns-in_err-to-clause-looks
returns-in_err-to-clause-looks g c = looks_none (g.met.M.Machine.only_now c.args.machine.now) (search rules)
