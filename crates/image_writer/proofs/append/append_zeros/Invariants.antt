use Rattle.std.proofs.Common.{◌≡◌, ◌≤◌, ◌-◌, IsTrue, replicate}
use Rattle.boot_machine.specs.Prelude.{TakesNone}
use Rattle.install_steps.specs.Appends.{Appends, IsGrown}
use Rattle.image_writer.proofs.append.append_zeros.Given as goal

abbrev pub invariant-loop-done : goal.invariant-loop-done
invariant-loop-done g l = record {
  within : l.done ≤ l.count;
  appends : Appends g.M.Machine.tells g.M.Machine.time g.M.Machine.state g.M.Machine.counts (λ before now. now ≡ before) l.temp l.initial.machine l.machine;
  grown : IsTrue g.M.Machine.tells → IsGrown l.temp (replicate l.done 0) (g.M.Machine.state l.initial.machine) (g.M.Machine.state l.machine);
  taken : IsTrue g.M.Machine.tells → TakesNone (g.M.Machine.taken l.initial.machine) (g.M.Machine.taken l.machine);
}

abbrev pub decreases-loop-done : goal.decreases-loop-done
decreases-loop-done g l = l.count - l.done
