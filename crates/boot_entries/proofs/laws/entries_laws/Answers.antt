-- The laws of entries.
use Rattle.boot_entries.proofs.EntryFiles.{entries_menu, view_menu, view_count}
use Rattle.boot_entries.proofs.Removing.{count_removed, menu_own, menu_removed}
use Rattle.boot_entries.proofs.laws.entries_laws.Goals as goal

pub returns : goal.returns
returns c = record { menu = entries_menu; view_menu = view_menu; view_count = view_count; own = menu_own; removal_menu = menu_removed; removal_count = count_removed }
