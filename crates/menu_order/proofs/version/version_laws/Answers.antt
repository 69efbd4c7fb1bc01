-- The laws of the order.
use Rattle.menu_order.specs.proofs.Orders.{version_cmp_total}
use Rattle.menu_order.proofs.VersionTies.{equal_tokens, first_difference}
use Rattle.menu_order.proofs.version.version_laws.Goals as goal

pub returns : goal.returns
returns c = record { total = version_cmp_total; equal = equal_tokens; first_difference = first_difference }
