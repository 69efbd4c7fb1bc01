use Rattle.std.proofs.Common.{[], take}
use Rattle.stub_replay.specs.Registers.{AllHold}
use Rattle.stub_replay.proofs.register.begin_all.Given as goal

abbrev pub invariant-loop-bank : goal.invariant-loop-bank
invariant-loop-bank l = AllHold l.registers.items (take l.bank-index l.banks) [] []
