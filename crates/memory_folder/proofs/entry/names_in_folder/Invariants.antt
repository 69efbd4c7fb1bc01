use Rattle.std.proofs.Common.{◌≡◌, map, take, string_bytes}
use Rattle.memory_folder.specs.Entries.{names_in_folder}
use Rattle.memory_folder.proofs.entry.names_in_folder.Given as goal

abbrev pub invariant-loop-entry : goal.invariant-loop-entry
invariant-loop-entry l = map string_bytes l.names.items ≡ names_in_folder l.folder (take l.entry-index l.entries)
