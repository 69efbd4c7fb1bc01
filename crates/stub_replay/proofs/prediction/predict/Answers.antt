use Rattle.std.proofs.Common.{◌∙◌, rules, map, IsTrue}
use Rattle.boot_machine.specs.Prelude.{contents, seen}
use Rattle.boot_machine.proofs.Reading.{looks_none}
use Rattle.stub_replay.specs.Parts.{named_bytes, items_of, HaveSizes}
use Rattle.stub_replay.proofs.Measuring.{value_banks, value_shown}
use Rattle.stub_replay.proofs.Zips.{written_back}
use Rattle.stub_replay.proofs.prediction.predict.Goals as goal

pub returns-in_err-registers-clause-looks : goal.returns-in_err-registers-clause-looks
returns-in_err-registers-clause-looks g c = looks_none (g.met.M.Machine.only_now c.args.machine.now) (search rules)

pub returns-clause-banks : goal.returns-clause-banks
returns-clause-banks g c =
    let files = contents (seen (g.M.Machine.state c.args.machine.now)) in
    value_banks (IsTrue g.M.Machine.tells × HaveSizes files c.args.parts.now) (items_of (map (named_bytes files) c.args.parts.now)) c.args.banks.now
    c.in_ok-registers.registers.items c.deref_mut.result.now c.measure_all.new.registers c.deref.result.now c.in_ok-values.field-0.items
    c.in_ok-registers.ensures (search rules) c.in_ok-measure_all.ensures.value
    (c.deref.ensures.value ∙ written_back c.in_ok-registers.registers.len c.in_ok-registers.registers.items c.measure_all.new.registers (search rules) (search rules)) c.in_ok-values.ensures

pub returns-clause-value : goal.returns-clause-value
returns-clause-value g c told sizes =
    let files = contents (seen (g.M.Machine.state c.args.machine.now)) in
    value_shown (IsTrue g.M.Machine.tells × HaveSizes files c.args.parts.now) (items_of (map (named_bytes files) c.args.parts.now)) c.args.banks.now
    c.in_ok-registers.registers.items c.deref_mut.result.now c.measure_all.new.registers c.deref.result.now c.in_ok-values.field-0.items
    c.in_ok-registers.ensures (search rules) c.in_ok-measure_all.ensures.value
    (c.deref.ensures.value ∙ written_back c.in_ok-registers.registers.len c.in_ok-registers.registers.items c.measure_all.new.registers
    (search rules) (search rules)) c.in_ok-values.ensures (told, sizes)
