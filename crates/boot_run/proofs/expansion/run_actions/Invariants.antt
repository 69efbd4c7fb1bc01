use Rattle.std.proofs.Common.{◌≡◌, IsTrue, take}
use Rattle.boot_machine.specs.Prelude.{IsRested, IsFirm, recovered_now}
use Rattle.install_steps.specs.Steps.{NoNewTemp}
use Rattle.boot_run.specs.Spared.{AllKeep}
use Rattle.boot_run.proofs.UpToRefused.{Unrefused, lines_done}
use Rattle.boot_run.proofs.expansion.run_actions.Given as goal

abbrev pub invariant-loop-line : goal.invariant-loop-line
invariant-loop-line g l = record {
  told : IsTrue g.M.Machine.tells → IsFirm (g.M.Machine.state l.initial.machine)
      → Unrefused g.M.Machine.time g.M.Machine.state l.initial.machine l.machine l.lines l.line-index;
  rests : IsTrue g.M.Machine.tells → IsRested (g.M.Machine.state l.machine);
  input : IsTrue g.M.Machine.tells → (g.M.Machine.state l.machine).input ≡ (g.M.Machine.state l.initial.machine).input;
  temps : IsTrue g.M.Machine.tells → NoNewTemp (g.M.Machine.state l.initial.machine) (g.M.Machine.state l.machine);
  spares : IsTrue g.M.Machine.tells → IsFirm (g.M.Machine.state l.initial.machine) → AllKeep (recovered_now (g.M.Machine.state l.initial.machine))
      (take l.line-index (lines_done g.M.Machine.time g.M.Machine.state l.initial.machine l.lines)) (g.M.Machine.state l.initial.machine).files (g.M.Machine.state l.machine).files;
  counts : g.M.Machine.counts l.machine ≡ g.M.Machine.counts l.initial.machine;
}
