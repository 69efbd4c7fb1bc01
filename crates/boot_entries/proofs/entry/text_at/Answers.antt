-- The size is asked for, and then the bytes are read.
use Rattle.std.proofs.Common.{rules}
use Rattle.boot_machine.proofs.Reading.{looks_on}
use Rattle.boot_entries.proofs.entry.text_at.Goals as goal

pub returns-in_err-bytes-clause-looks : goal.returns-in_err-bytes-clause-looks
returns-in_err-bytes-clause-looks g c = looks_on c.size_within.ensures.looks c.file_bytes.ensures.looks (search rules)

pub returns-in_err-text_entry-clause-looks : goal.returns-in_err-text_entry-clause-looks
returns-in_err-text_entry-clause-looks g c = looks_on c.size_within.ensures.looks c.file_bytes.ensures.looks (search rules)

pub returns-clause-looks : goal.returns-clause-looks
returns-clause-looks g c = looks_on c.size_within.ensures.looks c.file_bytes.ensures.looks (search rules)
