-- Nothing is read before there is memory.
use Rattle.std.proofs.Common.{rules}
use Rattle.boot_machine.proofs.Reading.{looks_none}
use Rattle.boot_entries.proofs.uki.range_bytes.Goals as goal

pub returns-in_err-bytes-clause-looks : goal.returns-in_err-bytes-clause-looks
returns-in_err-bytes-clause-looks g c = looks_none (g.met.M.Machine.only_now c.args.machine.now) (search rules)
