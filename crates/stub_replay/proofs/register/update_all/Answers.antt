use Rattle.std.proofs.Common.{arith}
use Rattle.stub_replay.specs.Registers.{Takes}
use Rattle.stub_replay.proofs.Zips.{up_to_more, up_to_all}
use Rattle.stub_replay.proofs.register.update_all.Goals as goal

pub loop-register-preserved : goal.loop-register-preserved
loop-register-preserved c =
    up_to_more (Takes c.args.bytes.now) c.loop-register.register-index c.args.registers.now c.loop-register.registers _ c.update.new.self (omega arith) c.update.ensures c.loop-register.invariant

pub returns : goal.returns
returns c =
    up_to_all (Takes c.args.bytes.now) c.loop-register.register-index c.args.registers.now c.loop-register.registers (omega arith) c.loop-register.invariant
