use Rattle.std.proofs.Common.{◌≡◌, ◌++◌, take, flat_map}
use Rattle.boot_entries.specs.Listing.{behind_space}
use Rattle.boot_entries.proofs.listing.join_texts.Given as goal

abbrev pub invariant-loop-option : goal.invariant-loop-option
invariant-loop-option l = l.text.items ≡ l.initial.text.items ++ flat_map behind_space (take l.option-index l.later)
