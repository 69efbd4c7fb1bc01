use Rattle.std.proofs.Common.{◌≡◌, ◌≤◌, ◌-◌, IsTrue, take}
use Rattle.folder_calls.proofs.same_bytes.have_same_start.Given as goal

-- so far they are the same
abbrev pub invariant-loop-at : goal.invariant-loop-at
invariant-loop-at g l = record {
  within : l.at ≤ l.length;
  same : IsTrue g.C.Calls.tells
      → take l.at ((g.C.Calls.tree l.calls).bytes (g.C.Calls.inode l.file))
      ≡ take l.at ((g.C.Calls.tree l.calls).bytes (g.C.Calls.inode l.other));
}

abbrev pub decreases-loop-at : goal.decreases-loop-at
decreases-loop-at g l = l.length - l.at
