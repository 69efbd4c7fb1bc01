use Rattle.std.proofs.Common.{rules}
use Rattle.boot_machine.proofs.Reading.{looks_none}
use Rattle.pe_reader.proofs.stages.sections_in.Goals as goal

pub returns-in_err-table-clause-looks : goal.returns-in_err-table-clause-looks
returns-in_err-table-clause-looks g c = looks_none (g.met.M.Machine.only_now c.args.machine.now) (search rules)
