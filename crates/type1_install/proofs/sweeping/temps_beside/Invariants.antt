use Rattle.std.proofs.Common.{◌≡◌, take}
use Rattle.type1_install.specs.Sweeping.{temps_beside}
use Rattle.type1_install.proofs.sweeping.temps_beside.Given as goal

abbrev pub invariant-loop-name : goal.invariant-loop-name
invariant-loop-name l = l.temps.items ≡ temps_beside l.folder (take l.name-index l.names)
