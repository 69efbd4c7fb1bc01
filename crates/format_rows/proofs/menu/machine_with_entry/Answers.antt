-- One path is distinct.
use Rattle.std.proofs.Common.{rules}
use Rattle.std.specs.List.{IsDistinct}
use Rattle.format_rows.proofs.menu.machine_with_entry.Goals as goal

pub new-requires : goal.new-requires
unfolding IsDistinct
new-requires c = search rules
