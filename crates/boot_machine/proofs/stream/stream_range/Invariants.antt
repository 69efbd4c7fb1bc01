use Rattle.std.proofs.Common.{◌≡◌, ◌≤◌, ◌-◌, IsTrue, length, drop}
use Rattle.boot_machine.specs.Prelude.{TakesAtMost, fill_with_zeros, contents, TookWhere}
use Rattle.boot_machine.proofs.stream.stream_range.Given as goal

abbrev pub invariant-loop-done : goal.invariant-loop-done
invariant-loop-done g l = record {
  within : l.done ≤ l.count;
  room : length l.buffer ≡ length l.initial.buffer;
  took : TookWhere g.S.ByteSink.took (IsTrue g.M.Machine.tells) (fill_with_zeros (drop l.start (contents (g.M.Machine.state l.initial.machine).files l.path)) l.done) l.initial.sink l.initial.machine l.sink l.machine;
  counts : g.M.Machine.counts l.machine ≡ g.M.Machine.counts l.initial.machine;
  taken : IsTrue g.M.Machine.tells → TakesAtMost l.done (g.M.Machine.taken l.initial.machine) (g.M.Machine.taken l.machine);
}

abbrev pub decreases-loop-done : goal.decreases-loop-done
decreases-loop-done g l = l.count - l.done
