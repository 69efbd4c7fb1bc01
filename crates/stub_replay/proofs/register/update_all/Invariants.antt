use Rattle.stub_replay.specs.Registers.{Takes}
use Rattle.stub_replay.proofs.Zips.{ZipUpTo}
use Rattle.stub_replay.proofs.register.update_all.Given as goal

abbrev pub invariant-loop-register : goal.invariant-loop-register
invariant-loop-register l = ZipUpTo (Takes l.bytes) l.register-index l.initial.registers l.registers
