use Rattle.std.proofs.Common.{◌≡◌, take, map}
use Rattle.menu_order.specs.Ids.{entry_id}
use Rattle.boot_entries.proofs.choice.entry_ids.Given as goal

abbrev pub invariant-loop-item : goal.invariant-loop-item
invariant-loop-item l = l.ids ≡ map entry_id (take l.item-index l.items)
