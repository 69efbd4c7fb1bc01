use Rattle.std.proofs.Common.{◌≡◌, ◌≤◌, ◌-◌, ◌*◌, IsTrue}
use Rattle.boot_machine.specs.Prelude.{OnlyReads, TakesAtMost, fill_with_zeros, contents}
use Rattle.type1_install.proofs.alike.are_alike.Given as goal

abbrev pub invariant-loop-done : goal.invariant-loop-done
invariant-loop-done g l = record {
  within : l.done ≤ l.size;
  same : IsTrue g.M.Machine.tells
      → fill_with_zeros (contents (g.M.Machine.state l.initial.machine).files l.first) l.done
      ≡ fill_with_zeros (contents (g.M.Machine.state l.initial.machine).files l.second) l.done;
  reads : IsTrue g.M.Machine.tells → OnlyReads g.M.Machine.time g.M.Machine.state l.initial.machine l.machine;
  counts : g.M.Machine.counts l.machine ≡ g.M.Machine.counts l.initial.machine;
  taken : IsTrue g.M.Machine.tells → TakesAtMost (2 * l.done) (g.M.Machine.taken l.initial.machine) (g.M.Machine.taken l.machine);
}

abbrev pub decreases-loop-done : goal.decreases-loop-done
decreases-loop-done g l = l.size - l.done
