use Rattle.std.proofs.Common.{◌≡◌, IsTrue, Ok, length, take, All, sum_by}
use Rattle.boot_machine.specs.Prelude.{OnlyReads, TakesAtMost, seen}
use Rattle.command_plans.specs.Prelude.{bytes_at, each}
use Rattle.type1_install.specs.Installing.{digesting_length}
use Rattle.type1_install.specs.Shown.{HasPayloadName, payload_at}
use Rattle.type1_install.proofs.payload.payloads_at.Given as goal

abbrev pub invariant-loop-file : goal.invariant-loop-file
invariant-loop-file g l = record {
  found : IsTrue g.M.Machine.tells → each (payload_at (seen (g.M.Machine.state l.initial.machine))) (take l.file-index l.files) ≡ Ok l.payloads.items;
  names : All HasPayloadName l.payloads.items;
  count : length l.payloads.items ≡ l.file-index;
  reads : IsTrue g.M.Machine.tells → OnlyReads g.M.Machine.time g.M.Machine.state l.initial.machine l.machine;
  counts : g.M.Machine.counts l.machine ≡ g.M.Machine.counts l.initial.machine;
  taken : IsTrue g.M.Machine.tells
      → TakesAtMost (sum_by (λ file. digesting_length (bytes_at (seen (g.M.Machine.state l.initial.machine)) file)) (take l.file-index l.files)) (g.M.Machine.taken l.initial.machine)
      (g.M.Machine.taken l.machine);
}
