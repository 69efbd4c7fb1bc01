use Rattle.std.proofs.Common.{◌≡◌, map, take}
use Rattle.boot_commands.proofs.demo_turns.bytes_of.Given as goal

abbrev pub invariant-loop-one : goal.invariant-loop-one
invariant-loop-one l = l.bytes.items ≡ map (λ p. p.byte) (take l.one-index l.printed)
