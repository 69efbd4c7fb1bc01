use Rattle.std.proofs.Common.{◌≡◌, map, take}
use Rattle.stub_replay.specs.declared.register.Register.{Register}
use Rattle.stub_replay.proofs.register.values.Given as goal

abbrev pub invariant-loop-register : goal.invariant-loop-register
invariant-loop-register l = l.values.items ≡ map (λ (register : Register). register.pcr) (take l.register-index l.registers)
