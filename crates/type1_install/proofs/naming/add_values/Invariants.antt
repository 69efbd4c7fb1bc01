use Rattle.std.proofs.Common.{◌≡◌, ◌++◌, take, filter_map}
use Rattle.type1_install.specs.Payloads.{path_of_value}
use Rattle.type1_install.proofs.naming.add_values.Given as goal

abbrev pub invariant-loop-value : goal.invariant-loop-value
invariant-loop-value l = l.named.items ≡ l.initial.named.items ++ filter_map (path_of_value l.esp) (take l.value-index l.values)
