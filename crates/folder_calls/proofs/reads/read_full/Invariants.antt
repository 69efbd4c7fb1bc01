use Rattle.std.proofs.Common.{◌≡◌, ◌≤◌, ◌-◌, IsTrue, length, drop}
use Rattle.folder_calls.proofs.Reading.{Holds}
use Rattle.folder_calls.proofs.reads.read_full.Given as goal

abbrev pub invariant-loop-done : goal.invariant-loop-done
invariant-loop-done g l = record {
  long : length l.into ≡ length l.initial.into;
  within : l.done ≤ length l.into;
  holds : IsTrue g.C.Calls.tells
      → Holds (drop l.at ((g.C.Calls.tree l.calls).bytes (g.C.Calls.inode l.file))) l.into l.done;
}

abbrev pub decreases-loop-done : goal.decreases-loop-done
decreases-loop-done g l = length l.into - l.done
