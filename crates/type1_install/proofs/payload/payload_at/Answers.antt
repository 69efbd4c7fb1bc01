use Rattle.std.proofs.Common.{◌∙◌, ap, length, sym, rules}
use Rattle.boot_machine.specs.Prelude.{State, contents, seen}
use Rattle.boot_machine.proofs.Reading.{looks_on}
use Rattle.command_plans.specs.Prelude.{bytes_at}
use Rattle.command_plans.proofs.ReadErrors.{says_read_error}
use Rattle.type1_install.proofs.Payloads.{payload_made, read_error_first}
use Rattle.type1_install.proofs.Taken.{digested}
use Rattle.type1_install.proofs.payload.payload_at.Goals as goal

pub returns-in_err-size-clause-says : goal.returns-in_err-size-clause-says
returns-in_err-size-clause-says g c told =
    let view = seen (g.M.Machine.state c.args.machine.now) in
    says_read_error c.from_residual.result c.in_err-size.field-0.0 _ _ c.from_residual.ensures.0 c.from_residual.ensures.1
    (read_error_first c.in_err-size.field-0.0 (bytes_at view c.args.file.now) _ (c.in_err-size.ensures.file told))

pub returns-in_err-digest-clause-looks : goal.returns-in_err-digest-clause-looks
returns-in_err-digest-clause-looks g c = looks_on c.readable_size.ensures.looks c.file_digest.ensures.looks (search rules)

pub returns-in_err-name-clause-looks : goal.returns-in_err-name-clause-looks
returns-in_err-name-clause-looks g c = looks_on c.readable_size.ensures.looks c.file_digest.ensures.looks (search rules)

pub returns-in_err-file-clause-looks : goal.returns-in_err-file-clause-looks
returns-in_err-file-clause-looks g c = looks_on c.readable_size.ensures.looks c.file_digest.ensures.looks (search rules)

pub returns-clause-looks : goal.returns-clause-looks
returns-clause-looks g c = looks_on c.readable_size.ensures.looks c.file_digest.ensures.looks (search rules)

pub returns-clause-says : goal.returns-clause-says
returns-clause-says g c told =
    let s = g.M.Machine.state c.args.machine.now in
    let mid = g.M.Machine.state c.readable_size.new.machine in
    let path = c.args.file.now in
    let same = ap (λ (s : State). contents s.files path) (c.readable_size.ensures.looks.reads told).same in
    payload_made (seen s) mid.files path _ _ _ _ (c.in_ok-size.ensures.file told) (c.in_ok-size.ensures.held told ∙ sym same)
    (c.in_ok-digest.ensures.value told (ap length same ∙ c.in_ok-size.ensures.size told))
    c.in_ok-name.ensures.digits c.in_ok-file.ensures

pub returns-in_err-digest-clause-taken : goal.returns-in_err-digest-clause-taken
returns-in_err-digest-clause-taken g c told =
    digested (seen (g.M.Machine.state c.args.machine.now)) c.args.file.now _ _ _ _ _ (c.in_ok-size.ensures.file told) (c.in_ok-size.ensures.size told)
    (c.readable_size.ensures.taken told) (c.file_digest.ensures.taken told)

pub returns-in_err-name-clause-taken : goal.returns-in_err-name-clause-taken
returns-in_err-name-clause-taken g c told =
    digested (seen (g.M.Machine.state c.args.machine.now)) c.args.file.now _ _ _ _ _ (c.in_ok-size.ensures.file told) (c.in_ok-size.ensures.size told)
    (c.readable_size.ensures.taken told) (c.file_digest.ensures.taken told)

pub returns-in_err-file-clause-taken : goal.returns-in_err-file-clause-taken
returns-in_err-file-clause-taken g c told =
    digested (seen (g.M.Machine.state c.args.machine.now)) c.args.file.now _ _ _ _ _ (c.in_ok-size.ensures.file told) (c.in_ok-size.ensures.size told)
    (c.readable_size.ensures.taken told) (c.file_digest.ensures.taken told)

pub returns-clause-taken : goal.returns-clause-taken
returns-clause-taken g c told =
    digested (seen (g.M.Machine.state c.args.machine.now)) c.args.file.now _ _ _ _ _ (c.in_ok-size.ensures.file told) (c.in_ok-size.ensures.size told)
    (c.readable_size.ensures.taken told) (c.file_digest.ensures.taken told)
