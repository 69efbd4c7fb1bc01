-- The headers are read, and then the os-release text.
use Rattle.std.proofs.Common.{rules}
use Rattle.boot_machine.proofs.Reading.{looks_on}
use Rattle.boot_machine.specs.Prelude.{contents}
use Rattle.pe_reader.specs.Prelude.{pe_of}
use Rattle.boot_entries.proofs.Items.{headless_answer}
use Rattle.boot_entries.proofs.uki.uki_item.Goals as goal

pub returns-in_err-head-clause-exact : goal.returns-in_err-head-clause-exact
returns-in_err-head-clause-exact g c told =
    let file = contents (g.M.Machine.state c.args.machine.now).files c.args.file.now in
    headless_answer c.args.path file (pe_of file) c.in_err-head.field-0.0 c.from_residual.result (c.in_err-head.ensures.exact told) c.from_residual.ensures.1

pub returns-in_err-text-clause-looks : goal.returns-in_err-text-clause-looks
returns-in_err-text-clause-looks g c = looks_on c.read_head.ensures.looks c.range_bytes.ensures.looks (search rules)

pub returns-in_err-release-clause-looks : goal.returns-in_err-release-clause-looks
returns-in_err-release-clause-looks g c = looks_on c.read_head.ensures.looks c.range_bytes.ensures.looks (search rules)

pub returns-clause-looks : goal.returns-clause-looks
returns-clause-looks g c = looks_on c.read_head.ensures.looks c.range_bytes.ensures.looks (search rules)
