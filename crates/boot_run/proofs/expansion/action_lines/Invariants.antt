use Rattle.std.proofs.Common.{◌≡◌, map}
use Rattle.boot_run.specs.declared.line.Line.TheVariants.{Part}
use Rattle.boot_run.proofs.expansion.action_lines.Given as goal

abbrev pub invariant-loop-action : goal.invariant-loop-action
invariant-loop-action l = l.lines.items ≡ map Part l.yielded
