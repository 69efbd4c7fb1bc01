use Rattle.boot_machine.proofs.Reading.{reads_none}
use Rattle.type1_install.proofs.whole.FileHashByteSink.take.Goals as goal

pub returns-clause-took : goal.returns-clause-took
returns-clause-took g c = (
  c.update.ensures,
  λ told. reads_none g.M.Machine.time g.M.Machine.state c.args._machine.now (λ m o left. g.met.M.Machine.only_now c.args._machine.now m o told left),
)
