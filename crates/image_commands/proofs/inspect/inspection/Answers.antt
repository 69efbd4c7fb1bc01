use Rattle.std.proofs.Common.{ap, rules}
use Rattle.boot_machine.specs.Prelude.{State, contents, seen}
use Rattle.boot_machine.proofs.Reading.{looks_on}
use Rattle.pe_reader.specs.Prelude.{headers_of}
use Rattle.image_commands.proofs.Inspecting.{inspection_said}
use Rattle.image_commands.proofs.Taking.{inspected_taken}
use Rattle.image_commands.proofs.inspect.inspection.Goals as goal

pub returns-in_err-found-clause-looks : goal.returns-in_err-found-clause-looks
returns-in_err-found-clause-looks g c = looks_on c.image_head.ensures.looks c.inspected_sections.ensures.looks (search rules)

pub returns-in_err-found-clause-taken : goal.returns-in_err-found-clause-taken
returns-in_err-found-clause-taken g c told =
    inspected_taken (seen (g.M.Machine.state c.args.machine.now)) c.args.path.now (contents (g.M.Machine.state c.args.machine.now).files c.args.path.now) (headers_of c.in_ok-head.head) _ _ _
    (c.in_ok-head.ensures.image told) (c.image_head.ensures.taken told) (c.inspected_sections.ensures.taken told)

pub returns-in_err-told_sections-clause-looks : goal.returns-in_err-told_sections-clause-looks
returns-in_err-told_sections-clause-looks g c = looks_on c.image_head.ensures.looks c.inspected_sections.ensures.looks (search rules)

pub returns-in_err-told_sections-clause-taken : goal.returns-in_err-told_sections-clause-taken
returns-in_err-told_sections-clause-taken g c told =
    inspected_taken (seen (g.M.Machine.state c.args.machine.now)) c.args.path.now (contents (g.M.Machine.state c.args.machine.now).files c.args.path.now) (headers_of c.in_ok-head.head) _ _ _
    (c.in_ok-head.ensures.image told) (c.image_head.ensures.taken told) (c.inspected_sections.ensures.taken told)

pub returns-clause-says : goal.returns-clause-says
returns-clause-says g c told =
    inspection_said (seen (g.M.Machine.state c.args.machine.now)) c.args.json c.args.path.now (contents (g.M.Machine.state c.args.machine.now).files c.args.path.now) _ (headers_of c.in_ok-head.head)
    c.in_ok-found.found.items c.deref.result.now c.in_ok-told_sections.field-0.items
    (c.in_ok-head.ensures.image told) (ap (λ (s : State). contents s.files c.args.path.now) (c.image_head.ensures.looks.reads told).same)
    (c.in_ok-found.ensures.says told) c.deref.ensures.value c.in_ok-told_sections.ensures

pub returns-clause-looks : goal.returns-clause-looks
returns-clause-looks g c = looks_on c.image_head.ensures.looks c.inspected_sections.ensures.looks (search rules)

pub returns-clause-taken : goal.returns-clause-taken
returns-clause-taken g c told =
    inspected_taken (seen (g.M.Machine.state c.args.machine.now)) c.args.path.now (contents (g.M.Machine.state c.args.machine.now).files c.args.path.now) (headers_of c.in_ok-head.head) _ _ _
    (c.in_ok-head.ensures.image told) (c.image_head.ensures.taken told) (c.inspected_sections.ensures.taken told)
