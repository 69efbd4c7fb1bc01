use Rattle.std.proofs.Common.{arith, rules}
use Rattle.boot_machine.specs.Prelude.{contents, seen}
use Rattle.boot_machine.proofs.Reading.{looks_none}
use Rattle.stub_replay.proofs.Taking.{held_after}
use Rattle.stub_replay.proofs.Measuring.{part_empty, part_some}
use Rattle.stub_replay.proofs.prediction.measure_part.Goals as goal

pub returns-then-content_length-eq0-clause-value : goal.returns-then-content_length-eq0-clause-value
returns-then-content_length-eq0-clause-value g c =
    part_empty g.M.Machine.tells (contents (seen (g.M.Machine.state c.args.machine.now))) c.args.part.now.name.now c.args.part.now.content c.args.registers.now (omega arith)

pub returns-then-content_length-eq0-clause-looks : goal.returns-then-content_length-eq0-clause-looks
returns-then-content_length-eq0-clause-looks g c = looks_none (g.met.M.Machine.only_now c.args.machine.now) (search rules)

pub close_all-requires : goal.close_all-requires
close_all-requires g c =
    held_after c.in_ok-take_content.ensures.data.0 c.args.registers.now c.take_content.new.registers c.requires.between c.in_ok-take_content.ensures.data.1

pub returns-clause-value : goal.returns-clause-value
returns-clause-value g c =
    part_some g.M.Machine.tells (contents (seen (g.M.Machine.state c.args.machine.now))) c.args.part.now.name.now c.args.part.now.content
    c.args.registers.now c.take_content.new.registers c.close_all.new.registers (omega arith) c.in_ok-take_content.ensures.data c.close_all.ensures
