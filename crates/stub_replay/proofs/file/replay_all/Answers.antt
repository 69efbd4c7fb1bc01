use Rattle.std.proofs.Common.{◌∙◌, rules, IsTrue}
use Rattle.boot_machine.specs.Prelude.{contents}
use Rattle.boot_machine.proofs.Reading.{looks_none}
use Rattle.stub_replay.specs.Measured.{measured_list}
use Rattle.stub_replay.proofs.Measuring.{value_banks, value_shown}
use Rattle.stub_replay.proofs.Sections.{all_between}
use Rattle.stub_replay.proofs.Zips.{written_back}
use Rattle.stub_replay.proofs.file.replay_all.Goals as goal

pub returns-in_err-registers-clause-looks : goal.returns-in_err-registers-clause-looks
returns-in_err-registers-clause-looks g c = looks_none (g.met.M.Machine.only_now c.args.machine.now) (search rules)

pub measure_sections-requires-clause-between : goal.measure_sections-requires-clause-between
measure_sections-requires-clause-between g c = all_between c.args.banks.now c.in_ok-registers.registers.items c.deref_mut.result.now c.in_ok-registers.ensures (search rules)

pub returns-clause-banks : goal.returns-clause-banks
returns-clause-banks g c =
    value_banks (IsTrue g.M.Machine.tells) (measured_list (contents (g.M.Machine.state c.args.machine.now).files c.args.path.now)) c.args.banks.now
    c.in_ok-registers.registers.items c.deref_mut.result.now c.measure_sections.new.registers c.deref.result.now c.in_ok-values.field-0.items
    c.in_ok-registers.ensures (search rules) c.in_ok-measure_sections.ensures.value
    (c.deref.ensures.value ∙ written_back c.in_ok-registers.registers.len c.in_ok-registers.registers.items c.measure_sections.new.registers (search rules) (search rules)) c.in_ok-values.ensures

pub returns-clause-value : goal.returns-clause-value
returns-clause-value g c told =
    value_shown (IsTrue g.M.Machine.tells) (measured_list (contents (g.M.Machine.state c.args.machine.now).files c.args.path.now)) c.args.banks.now
    c.in_ok-registers.registers.items c.deref_mut.result.now c.measure_sections.new.registers c.deref.result.now c.in_ok-values.field-0.items
    c.in_ok-registers.ensures (search rules) c.in_ok-measure_sections.ensures.value
    (c.deref.ensures.value ∙ written_back c.in_ok-registers.registers.len c.in_ok-registers.registers.items c.measure_sections.new.registers (search rules) (search rules)) c.in_ok-values.ensures told
