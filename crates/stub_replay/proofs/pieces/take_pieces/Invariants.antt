use Rattle.std.proofs.Common.{◌≡◌, IsTrue, take, sum_by}
use Rattle.boot_machine.specs.Prelude.{contents, seen, OnlyReads, TakesAtMost}
use Rattle.uki_parts.specs.Pieces.{HasSizes, bytes_of, file_length}
use Rattle.stub_replay.specs.Taking.{TakesWhere}
use Rattle.stub_replay.proofs.pieces.take_pieces.Given as goal

abbrev pub invariant-loop-piece : goal.invariant-loop-piece
invariant-loop-piece g l = record {
  hashed : TakesWhere (IsTrue g.M.Machine.tells × HasSizes (contents (seen (g.M.Machine.state l.initial.machine))) l.pieces)
      (bytes_of (contents (seen (g.M.Machine.state l.initial.machine))) (take l.piece-index l.pieces)) l.initial.registers l.registers;
  reads : IsTrue g.M.Machine.tells → OnlyReads g.M.Machine.time g.M.Machine.state l.initial.machine l.machine;
  counts : g.M.Machine.counts l.machine ≡ g.M.Machine.counts l.initial.machine;
  taken : IsTrue g.M.Machine.tells → TakesAtMost (sum_by file_length (take l.piece-index l.pieces)) (g.M.Machine.taken l.initial.machine) (g.M.Machine.taken l.machine);
}
