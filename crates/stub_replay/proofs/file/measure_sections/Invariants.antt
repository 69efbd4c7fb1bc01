use Rattle.std.proofs.Common.{◌≡◌, IsTrue}
use Rattle.boot_machine.specs.Prelude.{contents, OnlyReads, TakesAtMost}
use Rattle.stub_replay.specs.Taking.{ExtendsWhere}
use Rattle.stub_replay.proofs.Turns.{items_until, length_until}
use Rattle.stub_replay.proofs.file.measure_sections.Given as goal

abbrev pub invariant-loop-name : goal.invariant-loop-name
invariant-loop-name g l = record {
  measured : ExtendsWhere (IsTrue g.M.Machine.tells) (items_until (contents (g.M.Machine.state l.initial.machine).files l.path) l.name-index) l.initial.registers l.registers;
  reads : IsTrue g.M.Machine.tells → OnlyReads g.M.Machine.time g.M.Machine.state l.initial.machine l.machine;
  counts : g.M.Machine.counts l.machine ≡ g.M.Machine.counts l.initial.machine;
  taken : IsTrue g.M.Machine.tells → TakesAtMost (length_until (contents (g.M.Machine.state l.initial.machine).files l.path) l.name-index)
      (g.M.Machine.taken l.initial.machine) (g.M.Machine.taken l.machine);
}
