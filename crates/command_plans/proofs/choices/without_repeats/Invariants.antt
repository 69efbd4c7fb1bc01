use Rattle.std.proofs.Common.{◌≡◌}
use Rattle.command_plans.specs.Prelude.{without_repeats}
use Rattle.command_plans.proofs.choices.without_repeats.Given as goal

abbrev pub invariant-loop-item : goal.invariant-loop-item
invariant-loop-item g l = l.kept.items ≡ without_repeats g.T.PartialEq.eq l.yielded
