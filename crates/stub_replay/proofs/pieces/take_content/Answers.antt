use Rattle.std.proofs.Common.{rules}
use Rattle.boot_machine.proofs.Reading.{looks_none}
use Rattle.stub_replay.proofs.pieces.take_content.Goals as goal

pub returns-in-Bytes-clause-looks : goal.returns-in-Bytes-clause-looks
returns-in-Bytes-clause-looks g c = looks_none (g.met.M.Machine.only_now c.args.machine.now) (search rules)
