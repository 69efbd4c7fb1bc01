-- The id of a boot entry.
use Rattle.std.specs.Prelude.{ℕ, List, ◌++◌}
use Rattle.menu_order.specs.Counter.{suffix_text}
use Rattle.menu_order.specs.declared.item.MenuItem.{MenuItem}

-- the id of an entry: the name of its file without the counter (UAPI Boot Loader Specification)
abbrev pub entry_id : MenuItem → List ℕ
entry_id item = item.base ++ suffix_text item.suffix
