use Rattle.std.proofs.Common.{ap, map, subst, sym, ◌∙◌, rules}
use Rattle.boot_machine.proofs.Reading.{looks_none}
use Rattle.boot_machine.specs.Prelude.{seen}
use Rattle.pcr_values.specs.Prelude.{HasDistinctBanks, pcr_value}
use Rattle.pcr_values.proofs.Distinct.{distinct_registers}
use Rattle.image_writer.specs.Sourced.{planned_image}
use Rattle.image_build.proofs.Values.{values_said}
use Rattle.image_build.proofs.build_values.planned_values.Goals as goal

pub returns-in_err-banks-clause-looks : goal.returns-in_err-banks-clause-looks
returns-in_err-banks-clause-looks g c = looks_none (g.met.M.Machine.only_now c.args.machine.now) (search rules)

pub returns-in_err-paths-clause-looks : goal.returns-in_err-paths-clause-looks
returns-in_err-paths-clause-looks g c = looks_none (g.met.M.Machine.only_now c.args.machine.now) (search rules)

pub result_lines-requires-clause-banks : goal.result_lines-requires-clause-banks
result_lines-requires-clause-banks g c =
    subst HasDistinctBanks (sym c.deref-2.ensures.value)
    (distinct_registers c.in_ok-registers.registers.items c.in_ok-banks.banks.items (c.in_ok-registers.ensures.banks ∙ c.deref.ensures.value) c.in_ok-banks.ensures.distinct)

pub returns-clause-says : goal.returns-clause-says
returns-clause-says g c told on =
    let view = seen (g.M.Machine.state c.args.machine.now) in
    let plan = c.args.plan.now in
    let starts = c.in_ok-registers.registers.items in
    values_said (planned_image plan.image.plan plan.image.sources view) starts c.deref.result.now c.deref-3.result.now c.in_ok-result_lines.field-0.items
    (c.in_ok-registers.ensures.says told on) (c.deref.ensures.value ∙ c.in_ok-banks.ensures.value) (c.deref-3.ensures.value ∙ c.in_ok-paths.ensures.value)
    (λ items bs are. c.in_ok-result_lines.ensures.folds items bs (ap (map pcr_value) c.deref-2.ensures.value ∙ are))
