use Rattle.std.proofs.Common.{rules}
use Rattle.boot_machine.proofs.Reading.{looks_none}
use Rattle.stub_replay.proofs.pieces.take_piece.Goals as goal

pub returns-in-Bytes-clause-looks : goal.returns-in-Bytes-clause-looks
returns-in-Bytes-clause-looks g c = looks_none (g.met.M.Machine.only_now c.args.machine.now) (search rules)

pub returns-in-Zeros-clause-looks : goal.returns-in-Zeros-clause-looks
returns-in-Zeros-clause-looks g c = looks_none (g.met.M.Machine.only_now c.args.machine.now) (search rules)
