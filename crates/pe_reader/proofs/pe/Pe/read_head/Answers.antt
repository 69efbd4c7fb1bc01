use Rattle.std.proofs.Common.{rules}
use Rattle.boot_machine.proofs.Reading.{looks_on}
use Rattle.pe_reader.proofs.Joined.{pe_joined}
use Rattle.pe_reader.proofs.pe.Pe.read_head.Goals as goal

pub returns-clause-read : goal.returns-clause-read
returns-clause-read g c = pe_joined _ c.args.size c.requires.small c.in_ok-head.ensures.inside c.in_ok-head.ensures.read c.in_ok-sections.ensures.read

pub returns-in_err-sections-clause-looks : goal.returns-in_err-sections-clause-looks
returns-in_err-sections-clause-looks g c = looks_on c.head_in.ensures.looks c.sections_in.ensures.looks (search rules)

pub returns-clause-looks : goal.returns-clause-looks
returns-clause-looks g c = looks_on c.head_in.ensures.looks c.sections_in.ensures.looks (search rules)
