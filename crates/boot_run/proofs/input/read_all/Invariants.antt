use Rattle.std.proofs.Common.{◌≡◌, ◌≤◌, ◌-◌, ◌++◌, IsTrue, vec_len}
use Rattle.boot_machine.specs.Prelude.{IsImage, EachSince, SameButInput}
use Rattle.boot_run.proofs.input.read_all.Given as goal

abbrev pub invariant-loop-buffer : goal.invariant-loop-buffer
invariant-loop-buffer g l = record {
  within : vec_len l.bytes ≤ 1048577;
  read : IsTrue g.M.Machine.tells → (g.M.Machine.state l.initial.machine).input ≡ l.bytes.items ++ (g.M.Machine.state l.machine).input;
  same : IsTrue g.M.Machine.tells → SameButInput (g.M.Machine.state l.initial.machine) (g.M.Machine.state l.machine);
  moments : IsTrue g.M.Machine.tells
      → EachSince g.M.Machine.time l.initial.machine l.machine
      (λ m o. IsImage (g.M.Machine.state l.initial.machine) m × (o ≡ (g.M.Machine.state l.initial.machine).printed));
  counts : g.M.Machine.counts l.machine ≡ g.M.Machine.counts l.initial.machine;
}

abbrev pub decreases-loop-buffer : goal.decreases-loop-buffer
decreases-loop-buffer g l = 1048577 - vec_len l.bytes
