use Rattle.std.proofs.Common.{◌≡◌, ◌++◌, take, flat_map}
use Rattle.boot_entries.specs.Listing.{behind_newline}
use Rattle.boot_entries.proofs.listing.list_text.Given as goal

abbrev pub invariant-loop-item : goal.invariant-loop-item
invariant-loop-item l = l.out.items ≡ l.initial.out.items ++ flat_map behind_newline (take l.item-index l.later)
