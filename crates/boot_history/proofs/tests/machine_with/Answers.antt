-- One path is distinct.
use Rattle.std.proofs.Common.{rules}
use Rattle.std.specs.List.{IsDistinct}
use Rattle.boot_history.proofs.tests.machine_with.Goals as goal

pub new-requires : goal.new-requires
unfolding IsDistinct
new-requires c = search rules
