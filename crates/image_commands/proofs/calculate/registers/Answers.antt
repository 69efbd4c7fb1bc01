use Rattle.std.proofs.Common.{rules}
use Rattle.boot_machine.specs.Prelude.{contents, seen}
use Rattle.boot_machine.proofs.Reading.{looks_none}
use Rattle.image_commands.proofs.Calculated.{registers_predicted, taken_predicted}
use Rattle.image_commands.proofs.calculate.registers.Goals as goal

pub returns-in_err-parts-clause-looks : goal.returns-in_err-parts-clause-looks
returns-in_err-parts-clause-looks g c = looks_none (g.met.M.Machine.only_now c.args.machine.now) (search rules)

pub returns-clause-says : goal.returns-clause-says
returns-clause-says g c told sizes =
    let reading = contents (seen (g.M.Machine.state c.args.machine.now)) in
    registers_predicted reading c.args.files.now c.in_ok-parts.parts.items c.deref.result.now c.args.banks.now c.in_ok-predict.field-0.items c.deref.ensures.value
    (c.in_ok-parts.ensures.bytes reading) (c.in_ok-parts.ensures.sizes reading sizes) (c.in_ok-predict.ensures.value told)

pub returns-in_err-predict-clause-taken : goal.returns-in_err-predict-clause-taken
returns-in_err-predict-clause-taken g c told sizes =
    let reading = contents (seen (g.M.Machine.state c.args.machine.now)) in
    taken_predicted reading c.args.files.now c.in_ok-parts.parts.items c.deref.result.now _ _ c.deref.ensures.value
    (c.in_ok-parts.ensures.bytes reading) (c.in_ok-parts.ensures.sizes reading sizes) (c.predict.ensures.taken told)

pub returns-clause-taken : goal.returns-clause-taken
returns-clause-taken g c told sizes =
    let reading = contents (seen (g.M.Machine.state c.args.machine.now)) in
    taken_predicted reading c.args.files.now c.in_ok-parts.parts.items c.deref.result.now _ _ c.deref.ensures.value
    (c.in_ok-parts.ensures.bytes reading) (c.in_ok-parts.ensures.sizes reading sizes) (c.predict.ensures.taken told)
