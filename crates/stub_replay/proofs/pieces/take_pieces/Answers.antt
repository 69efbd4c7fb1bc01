use Rattle.std.proofs.Common.{rules, arith, refl, ap}
use Rattle.std.proofs.lemmas.List.Sums.{sum_by_more}
use Rattle.uki_parts.specs.Pieces.{file_length}
use Rattle.boot_machine.specs.Prelude.{State, contents, seen}
use Rattle.boot_machine.proofs.Reading.{reads_none, reads_on}
use Rattle.stub_replay.proofs.Taking.{where_none, pieces_more}
use Rattle.stub_replay.proofs.pieces.take_pieces.Goals as goal

pub loop-piece-init : goal.loop-piece-init
loop-piece-init g c = record {
  hashed = where_none _ c.args.registers.now;
  reads = λ told. reads_none g.M.Machine.time g.M.Machine.state c.args.machine.now (λ m o left. g.met.M.Machine.only_now c.args.machine.now m o told left);
  counts = refl;
  taken = λ told. omega arith;
}

pub returns-in_err-take_piece-clause-looks : goal.returns-in_err-take_piece-clause-looks
returns-in_err-take_piece-clause-looks g c = record {
  reads = λ told. reads_on g.M.Machine.time g.M.Machine.state _ _ _ (c.loop-piece.invariant.reads told) (c.take_piece.ensures.looks.reads told);
  counted = search rules;
}

pub loop-piece-preserved : goal.loop-piece-preserved
loop-piece-preserved g c =
    let before = c.loop-piece.invariant in
    let piece = c.in_ok-take_piece.ensures in
    record {
      hashed = pieces_more g.M.Machine.tells (contents (seen (g.M.Machine.state c.args.machine.now))) (contents (seen (g.M.Machine.state c.loop-piece.machine)))
          c.args.pieces.now c.loop-piece.piece-index c.piece-item.result c.args.registers.now c.loop-piece.registers c.take_piece.new.registers
          (λ told. ap (λ (s : State). contents (seen s)) (before.reads told).same) (omega arith) c.piece-item.is before.hashed piece.data;
      reads = λ told. reads_on g.M.Machine.time g.M.Machine.state _ _ _ (before.reads told) (c.take_piece.ensures.looks.reads told);
      counts = search rules;
      taken = λ told.
          omega (
            arith,
            before.taken told,
            piece.taken told,
            ap file_length c.piece-item.is,
            sum_by_more file_length c.args.pieces.now c.loop-piece.piece-index c.piece-item.result (omega arith),
          );
    }
