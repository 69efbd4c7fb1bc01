use Rattle.std.proofs.Common.{◌≡◌, ◌++◌, take}
use Rattle.boot_entries.specs.Listing.{initrd_lines}
use Rattle.boot_entries.proofs.listing.append_initrds.Given as goal

abbrev pub invariant-loop-initrd : goal.invariant-loop-initrd
invariant-loop-initrd l = l.out.items ≡ l.initial.out.items ++ initrd_lines (take l.initrd-index l.initrds)
