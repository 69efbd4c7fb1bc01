use Rattle.std.proofs.Common.{◌≡◌, take}
use Rattle.entry_commands.specs.Tidying.{leftovers_among}
use Rattle.entry_commands.proofs.tidy.leftovers_among.Given as goal

abbrev pub invariant-loop-name : goal.invariant-loop-name
invariant-loop-name l = l.temps.items ≡ leftovers_among l.folder (take l.name-index l.names)
