use Rattle.std.proofs.Common.{◌↔◌, length}
use Rattle.boot_texts.specs.Patterns.{IsPattern}
use Rattle.boot_texts.proofs.pattern.is_pattern.Given as goal

abbrev pub invariant-loop-behind : goal.invariant-loop-behind
invariant-loop-behind l = IsPattern l.bytes ↔ IsPattern l.rest

abbrev pub decreases-loop-behind : goal.decreases-loop-behind
decreases-loop-behind l = length l.rest
