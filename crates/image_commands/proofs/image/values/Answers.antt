use Rattle.std.proofs.Common.{ap, sym, subst, ◌∙◌, rules}
use Rattle.boot_machine.specs.Prelude.{State, contents, seen}
use Rattle.pcr_values.specs.Prelude.{HasDistinctBanks}
use Rattle.pcr_values.proofs.Distinct.{distinct_registers}
use Rattle.pe_reader.specs.Prelude.{headers_of}
use Rattle.boot_machine.proofs.Reading.{looks_on}
use Rattle.image_commands.proofs.Registers.{values_are}
use Rattle.image_commands.proofs.Taking.{image_taken}
use Rattle.command_plans.proofs.ReadErrors.{says_read_error, unrefused}
use Rattle.image_commands.proofs.image.values.Goals as goal

pub returns-in_err-registers-clause-says : goal.returns-in_err-registers-clause-says
returns-in_err-registers-clause-says g c told =
    says_read_error c.from_residual-in_err-registers.result c.in_err-registers.field-0.0 _ _ c.from_residual-in_err-registers.ensures.0 c.from_residual-in_err-registers.ensures.1
    (unrefused c.in_err-registers.field-0.0 _ _ (c.in_err-registers.ensures.says told))

pub returns-in_err-registers-clause-looks : goal.returns-in_err-registers-clause-looks
returns-in_err-registers-clause-looks g c = looks_on c.image_head.ensures.looks c.registers.ensures.looks (search rules)

pub told_values-requires-clause-banks : goal.told_values-requires-clause-banks
told_values-requires-clause-banks g c =
    subst HasDistinctBanks (sym c.as_slice-2.ensures.value)
    (distinct_registers c.in_ok-registers.registers.items c.in_ok-banks.banks.items (c.in_ok-registers.ensures.banks ∙ c.as_slice.ensures.value) c.in_ok-banks.ensures.distinct)

pub returns-in_err-told_values-clause-looks : goal.returns-in_err-told_values-clause-looks
returns-in_err-told_values-clause-looks g c = looks_on c.image_head.ensures.looks c.registers.ensures.looks (search rules)

pub returns-clause-looks : goal.returns-clause-looks
returns-clause-looks g c = looks_on c.image_head.ensures.looks c.registers.ensures.looks (search rules)

pub returns-clause-says : goal.returns-clause-says
returns-clause-says g c told =
    values_are c.args.json (seen (g.M.Machine.state c.args.machine.now)) c.args.path.now c.args.banks.now c.args.phases.now
    (contents (g.M.Machine.state c.args.machine.now).files c.args.path.now) _ (headers_of c.in_ok-head.head)
    c.as_slice.result.now c.as_slice-3.result.now c.in_ok-registers.registers.items c.as_slice-2.result.now c.in_ok-told_values.field-0.items
    (c.in_ok-head.ensures.image told) (ap (λ (s : State). contents s.files c.args.path.now) (c.image_head.ensures.looks.reads told).same)
    (c.in_ok-registers.ensures.says told) c.as_slice-2.ensures.value
    (c.as_slice.ensures.value ∙ c.in_ok-banks.ensures.value) (c.as_slice-3.ensures.value ∙ c.in_ok-paths.ensures.value) c.in_ok-told_values.ensures

pub returns-in_err-registers-clause-taken : goal.returns-in_err-registers-clause-taken
returns-in_err-registers-clause-taken g c told =
    image_taken (seen (g.M.Machine.state c.args.machine.now)) c.args.path.now (contents (g.M.Machine.state c.args.machine.now).files c.args.path.now) _ (headers_of c.in_ok-head.head) _ _ _
    (c.in_ok-head.ensures.image told) (ap (λ (s : State). contents s.files c.args.path.now) (c.image_head.ensures.looks.reads told).same)
    (c.image_head.ensures.taken told) (c.registers.ensures.taken told)

pub returns-in_err-told_values-clause-taken : goal.returns-in_err-told_values-clause-taken
returns-in_err-told_values-clause-taken g c told =
    image_taken (seen (g.M.Machine.state c.args.machine.now)) c.args.path.now (contents (g.M.Machine.state c.args.machine.now).files c.args.path.now) _ (headers_of c.in_ok-head.head) _ _ _
    (c.in_ok-head.ensures.image told) (ap (λ (s : State). contents s.files c.args.path.now) (c.image_head.ensures.looks.reads told).same)
    (c.image_head.ensures.taken told) (c.registers.ensures.taken told)

pub returns-clause-taken : goal.returns-clause-taken
returns-clause-taken g c told =
    image_taken (seen (g.M.Machine.state c.args.machine.now)) c.args.path.now (contents (g.M.Machine.state c.args.machine.now).files c.args.path.now) _ (headers_of c.in_ok-head.head) _ _ _
    (c.in_ok-head.ensures.image told) (ap (λ (s : State). contents s.files c.args.path.now) (c.image_head.ensures.looks.reads told).same)
    (c.image_head.ensures.taken told) (c.registers.ensures.taken told)
