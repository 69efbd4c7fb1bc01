use Rattle.std.proofs.Common.{◌≡◌, length}
use Rattle.menu_order.specs.VersionOrder.{version_cmp}
use Rattle.menu_order.proofs.version.compare_versions.Given as goal

abbrev pub invariant-loop-first : goal.invariant-loop-first
invariant-loop-first l = version_cmp l.fn.a l.fn.b ≡ version_cmp l.left l.right

abbrev pub decreases-loop-first : goal.decreases-loop-first
decreases-loop-first l = length l.left
