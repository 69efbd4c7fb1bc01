use Rattle.std.proofs.Common.{◌≡◌, length}
use Rattle.std.specs.List.{list_any}
use Rattle.boot_texts.specs.Patterns.{member_holds, members_of}
use Rattle.boot_texts.proofs.pattern_item.set_holds.Given as goal

abbrev pub invariant-loop-first : goal.invariant-loop-first
invariant-loop-first l = list_any (member_holds l.byte) (members_of l.members) ≡ list_any (member_holds l.byte) (members_of l.between)

abbrev pub decreases-loop-first : goal.decreases-loop-first
decreases-loop-first l = length l.members
