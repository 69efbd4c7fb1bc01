use Rattle.std.proofs.Common.{ap, arith, map, subst, sym, rules}
use Rattle.boot_machine.proofs.Reading.{looks_none}
use Rattle.boot_machine.specs.Prelude.{contents, seen}
use Rattle.pcr_values.specs.Prelude.{pcr_value}
use Rattle.image_writer.specs.Sourced.{planned_image}
use Rattle.stub_replay.specs.Parts.{HaveSizes, files_length}
use Rattle.stub_replay.specs.Measured.{measured_list}
use Rattle.image_build.proofs.Values.{registers_are}
use Rattle.image_build.proofs.build_values.registers.Goals as goal

pub returns-in_err-parts-clause-looks : goal.returns-in_err-parts-clause-looks
returns-in_err-parts-clause-looks g c = looks_none (g.met.M.Machine.only_now c.args.machine.now) (search rules)

pub returns-clause-says : goal.returns-clause-says
returns-clause-says g c told on =
    let view = seen (g.M.Machine.state c.args.machine.now) in
    let plan = c.args.plan.now in
    let parts = c.in_ok-parts.parts.items in
    registers_are (contents view) parts c.deref.result.now (measured_list (planned_image plan.image.plan plan.image.sources view)) c.args.banks.now
    (map pcr_value c.in_ok-predict.field-0.items) c.deref.ensures.value
    (c.in_ok-parts.ensures.items view on) (c.in_ok-predict.ensures.value told (subst (HaveSizes (contents view)) (sym c.deref.ensures.value) (c.in_ok-parts.ensures.whole view on)))

pub returns-clause-taken : goal.returns-clause-taken
returns-clause-taken g c told on =
    omega (arith, c.predict.ensures.taken told, c.in_ok-parts.ensures.short (seen (g.M.Machine.state c.args.machine.now)) on, ap files_length c.deref.ensures.value)
