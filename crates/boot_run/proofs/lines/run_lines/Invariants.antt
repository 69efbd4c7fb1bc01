use Rattle.std.proofs.Common.{take, ◌≡◌, true, IsTrue}
use Rattle.boot_machine.specs.Prelude.{IsRested, IsFirm, recovered_now}
use Rattle.install_steps.specs.Steps.{NoNewTemp}
use Rattle.boot_run.specs.Endings.{AllTidied}
use Rattle.boot_run.specs.Lines.{has_command}
use Rattle.boot_run.specs.Spared.{AllKeep}
use Rattle.boot_run.proofs.Running.{SoFar}
use Rattle.boot_run.proofs.Synced.{IsSynced}
use Rattle.boot_run.proofs.lines.run_lines.Given as goal

abbrev pub invariant-loop-line : goal.invariant-loop-line
invariant-loop-line g l = record {
  told : IsTrue g.M.Machine.tells → IsFirm (g.M.Machine.state l.initial.machine) → SoFar g.M.Machine.time g.M.Machine.state l.initial.machine l.machine l.lines l.line-index l.refused;
  synced : IsTrue g.M.Machine.tells → IsFirm (g.M.Machine.state l.initial.machine) → IsSynced g.M.Machine.time g.M.Machine.state l.initial.machine l.machine l.lines l.line-index;
  begun : l.rested ≡ has_command (take l.line-index l.lines);
  rests : IsTrue g.M.Machine.tells → l.rested ≡ true → IsRested (g.M.Machine.state l.machine);
  tidied : IsTrue g.M.Machine.tells → AllTidied (take l.line-index l.lines) (g.M.Machine.state l.machine);
  input : IsTrue g.M.Machine.tells → (g.M.Machine.state l.machine).input ≡ (g.M.Machine.state l.initial.machine).input;
  temps : IsTrue g.M.Machine.tells → NoNewTemp (g.M.Machine.state l.initial.machine) (g.M.Machine.state l.machine);
  spares : IsTrue g.M.Machine.tells → IsFirm (g.M.Machine.state l.initial.machine) → AllKeep (recovered_now (g.M.Machine.state l.initial.machine)) (take l.line-index l.lines)
      (g.M.Machine.state l.initial.machine).files (g.M.Machine.state l.machine).files;
  counts : g.M.Machine.counts l.machine ≡ g.M.Machine.counts l.initial.machine;
}
