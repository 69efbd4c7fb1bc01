use Rattle.std.proofs.Common.{bytes_eq, subst, sym}
use Rattle.std.specs.List.{IsDistinct}
use Rattle.boot_commands.proofs.Swept.{distinct_none}
use Rattle.boot_commands.proofs.sweeping.temps_or_none.Goals as goal

pub returns-clause-distinct : goal.returns-clause-distinct
returns-clause-distinct c before = subst (IsDistinct bytes_eq) (sym c.new.ensures.items) distinct_none
