use Rattle.std.proofs.Common.{sym, rules}
use Rattle.boot_machine.proofs.Reading.{looks_none}
use Rattle.pe_reader.proofs.Shape.{optional_of_is}
use Rattle.pe_reader.proofs.stages.optional_in.Goals as goal

pub returns-in_err-optional-clause-looks : goal.returns-in_err-optional-clause-looks
returns-in_err-optional-clause-looks g c = looks_none (g.met.M.Machine.only_now c.args.machine.now) (search rules)

pub returns-clause-count : goal.returns-clause-count
returns-clause-count g c = (optional_of_is _ _ c.args.coff _ _ (sym c.in_ok-optional_header.ensures.exact)).section_count
