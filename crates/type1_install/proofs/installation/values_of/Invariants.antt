use Rattle.std.proofs.Common.{◌≡◌, map, take}
use Rattle.type1_install.specs.Shown.{value_of_payload}
use Rattle.type1_install.proofs.installation.values_of.Given as goal

abbrev pub invariant-loop-payload : goal.invariant-loop-payload
invariant-loop-payload l = l.values ≡ map value_of_payload (take l.payload-index l.payloads)
