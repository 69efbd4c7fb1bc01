use Rattle.std.proofs.Common.{◌≡◌, IsTrue, take, map}
use Rattle.boot_machine.specs.Prelude.{contents, seen, OnlyReads, TakesAtMost}
use Rattle.stub_replay.specs.Parts.{named_bytes, items_of, HaveSizes, files_length}
use Rattle.stub_replay.specs.Taking.{ExtendsWhere}
use Rattle.stub_replay.proofs.prediction.measure_all.Given as goal

abbrev pub invariant-loop-part : goal.invariant-loop-part
invariant-loop-part g l = record {
  value : ExtendsWhere (IsTrue g.M.Machine.tells × HaveSizes (contents (seen (g.M.Machine.state l.initial.machine))) l.parts)
      (items_of (map (named_bytes (contents (seen (g.M.Machine.state l.initial.machine)))) (take l.part-index l.parts))) l.initial.registers l.registers;
  reads : IsTrue g.M.Machine.tells → OnlyReads g.M.Machine.time g.M.Machine.state l.initial.machine l.machine;
  counts : g.M.Machine.counts l.machine ≡ g.M.Machine.counts l.initial.machine;
  taken : IsTrue g.M.Machine.tells → TakesAtMost (files_length (take l.part-index l.parts)) (g.M.Machine.taken l.initial.machine) (g.M.Machine.taken l.machine);
}
