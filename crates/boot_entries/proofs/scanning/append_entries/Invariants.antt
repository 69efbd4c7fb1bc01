use Rattle.std.proofs.Common.{◌≡◌, ◌++◌, ◌*◌, IsTrue, take}
use Rattle.boot_machine.specs.Prelude.{OnlyReads, TakesAtMost}
use Rattle.boot_entries.specs.Scanning.{entries_named, read_limit}
use Rattle.boot_entries.proofs.scanning.append_entries.Given as goal

abbrev pub invariant-loop-name : goal.invariant-loop-name
invariant-loop-name g l = record {
  entries : IsTrue g.M.Machine.tells → l.items.items ≡ l.initial.items.items ++ entries_named l.suffix (g.M.Machine.state l.initial.machine).files l.folder (take l.name-index l.names);
  reads : IsTrue g.M.Machine.tells → OnlyReads g.M.Machine.time g.M.Machine.state l.initial.machine l.machine;
  counts : g.M.Machine.counts l.machine ≡ g.M.Machine.counts l.initial.machine;
  taken : IsTrue g.M.Machine.tells → TakesAtMost (read_limit l.suffix * l.name-index) (g.M.Machine.taken l.initial.machine) (g.M.Machine.taken l.machine);
}
