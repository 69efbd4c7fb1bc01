use Rattle.std.proofs.Common.{rules}
use Rattle.stub_replay.proofs.Taking.{range_taken}
use Rattle.stub_replay.proofs.pieces.take_range.Goals as goal

pub returns-clause-data : goal.returns-clause-data
returns-clause-data g c =
    let took = c.in_ok-stream_range.ensures.took in
    range_taken g.M.Machine.tells (g.M.Machine.state c.args.machine.now) c.args.path.now c.args.at c.args.count took.0 c.args.registers.now c.stream_range.new.sink.registers.now _
    c.know.ensures.lasting took.1.0.0 took.2 (search rules)
