use Rattle.std.proofs.Common.{◌≡◌, take, option_copied}
use Rattle.boot_texts.specs.KeyValues.{last_value}
use Rattle.boot_texts.proofs.os_release.last_assigned.Given as goal

abbrev pub invariant-loop-assigned : goal.invariant-loop-assigned
invariant-loop-assigned l = option_copied l.found ≡ last_value l.key (take l.assigned-index l.assignments)
