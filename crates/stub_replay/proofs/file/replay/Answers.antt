use Rattle.std.proofs.Common.{[], ◌∷◌, IsTrue}
use Rattle.boot_machine.specs.Prelude.{contents}
use Rattle.stub_replay.specs.Measured.{measured_list}
use Rattle.stub_replay.proofs.Sections.{all_between, one_held, one_after}
use Rattle.stub_replay.proofs.file.replay.Goals as goal

pub measure_sections-requires-clause-between : goal.measure_sections-requires-clause-between
measure_sections-requires-clause-between g c =
    all_between (c.args.bank ∷ []) (c.new-register.result ∷ []) c.from_mut-registers.result.now (one_held c.new-register.result c.args.bank c.new-register.ensures) c.from_mut-registers.ensures.value

pub returns-clause-bank : goal.returns-clause-bank
returns-clause-bank g c =
    (one_after (IsTrue g.M.Machine.tells) (measured_list (contents
    (g.M.Machine.state c.args.machine.now).files c.args.path.now)) c.new-register.result c.from_mut-registers.result.now c.measure_sections.new.registers c.args.bank
    c.new-register.ensures c.from_mut-registers.ensures.value c.in_ok-measure_sections.ensures.value).0

pub returns-clause-value : goal.returns-clause-value
returns-clause-value g c =
    (one_after (IsTrue g.M.Machine.tells) (measured_list (contents
    (g.M.Machine.state c.args.machine.now).files c.args.path.now)) c.new-register.result c.from_mut-registers.result.now c.measure_sections.new.registers c.args.bank
    c.new-register.ensures c.from_mut-registers.ensures.value c.in_ok-measure_sections.ensures.value).1
