use Rattle.std.proofs.Common.{ap, arith, rules}
use Rattle.boot_machine.specs.Prelude.{seen}
use Rattle.stub_replay.specs.Measured.{measured_raw_length}
use Rattle.image_commands.proofs.Taking.{named_at}
use Rattle.boot_machine.proofs.Reading.{looks_none}
use Rattle.image_commands.proofs.image.measure_result.Goals as goal

pub returns-in_err-path-clause-looks : goal.returns-in_err-path-clause-looks
returns-in_err-path-clause-looks g c = looks_none (g.met.M.Machine.only_now c.args.machine.now) (search rules)

pub returns-clause-taken : goal.returns-clause-taken
returns-clause-taken g c told =
    omega (arith, c.values.ensures.taken told, ap measured_raw_length (named_at (seen (g.M.Machine.state c.args.machine.now)) c.args.file.now c.in_ok-path.path c.in_ok-path.ensures))
