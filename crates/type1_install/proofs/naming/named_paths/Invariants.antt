use Rattle.std.proofs.Common.{◌≡◌, take, flat_map}
use Rattle.type1_install.specs.Unnamed.{paths_named_by}
use Rattle.type1_install.proofs.naming.named_paths.Given as goal

abbrev pub invariant-loop-item : goal.invariant-loop-item
invariant-loop-item l = l.named.items ≡ flat_map (paths_named_by l.esp) (take l.item-index l.items)
