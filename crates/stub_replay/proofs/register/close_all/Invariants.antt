use Rattle.stub_replay.specs.Registers.{Closes}
use Rattle.stub_replay.proofs.Zips.{ZipUpTo}
use Rattle.stub_replay.proofs.register.close_all.Given as goal

abbrev pub invariant-loop-register : goal.invariant-loop-register
invariant-loop-register l = ZipUpTo (Closes l.name) l.register-index l.initial.registers l.registers
