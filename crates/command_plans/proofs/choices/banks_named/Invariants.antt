use Rattle.std.proofs.Common.{◌≡◌, take, filter_map}
use Rattle.pcr_values.specs.Prelude.{bank_named}
use Rattle.command_plans.proofs.choices.banks_named.Given as goal

abbrev pub invariant-loop-name : goal.invariant-loop-name
invariant-loop-name l = l.banks.items ≡ filter_map bank_named (take l.name-index l.names)
