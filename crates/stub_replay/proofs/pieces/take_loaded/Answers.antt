use Rattle.boot_machine.specs.Prelude.{contents, seen}
use Rattle.pe_reader.specs.Prelude.{part}
use Rattle.stub_replay.proofs.Taking.{zeros_behind}
use Rattle.stub_replay.proofs.pieces.take_loaded.Goals as goal

pub returns-clause-data : goal.returns-clause-data
returns-clause-data g c =
    let range = c.args.range in
    zeros_behind _ (part (contents (seen (g.M.Machine.state c.args.machine.now)) c.args.path.now) range.place range.length) range.zeros
    c.args.registers.now c.take_range.new.registers c.take_zeros.new.registers c.in_ok-take_range.ensures.data c.take_zeros.ensures.data
