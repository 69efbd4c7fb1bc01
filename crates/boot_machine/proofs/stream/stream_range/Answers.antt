use Rattle.std.proofs.Common.{IsTrue, ◌++◌, arith, drop, refl, rules}
use Rattle.boot_machine.specs.Prelude.{contents, TookSome}
use Rattle.boot_machine.proofs.Reading.{reads_none}
use Rattle.boot_machine.proofs.Pieces.{after_error, none_of, piece_more}
use Rattle.boot_machine.proofs.stream.stream_range.Goals as goal

pub loop-done-init : goal.loop-done-init
loop-done-init g c = record {
  within = omega arith;
  room = refl;
  took = (
    _,
    g.met.S.ByteSink.reads c.args.sink.now c.args.machine.now c.args.machine.now
        (λ told. reads_none g.M.Machine.time g.M.Machine.state c.args.machine.now (λ m o left. g.met.M.Machine.only_now c.args.machine.now m o told left)),
    λ told. none_of (drop c.args.start (contents (g.M.Machine.state c.args.machine.now).files c.args.path.now)),
  );
  counts = refl;
  taken = λ told. omega arith;
}

pub stream_piece-requires-clause-can : goal.stream_piece-requires-clause-can
stream_piece-requires-clause-can g c =
    let before = c.loop-done.invariant.took in
    g.met.S.ByteSink.goes_on before.0 c.args.sink.now c.loop-done.sink c.args.machine.now c.loop-done.machine c.requires.can before.1

pub returns-in_err-done-clause-some : goal.returns-in_err-done-clause-some
returns-in_err-done-clause-some g c =
    let before = c.loop-done.invariant.took in
    let more : IsTrue g.M.Machine.tells → TookSome g.S.ByteSink.took c.args.sink.now c.args.machine.now c.stream_piece.new.sink c.stream_piece.new.machine = λ told.
    let rest = c.in_err-done.ensures.some told in
    (before.0 ++ rest.0, g.met.S.ByteSink.more before.0 rest.0 c.args.sink.now c.loop-done.sink c.stream_piece.new.sink c.args.machine.now c.loop-done.machine c.stream_piece.new.machine before.1 rest.1)
    in
    after_error c.from_residual.result _ more

pub loop-done-preserved : goal.loop-done-preserved
loop-done-preserved g c =
    let before = c.loop-done.invariant in
    let piece = c.in_ok-done.ensures in
    record {
      within = omega (arith, piece.within);
      room = search rules;
      took = (
        before.took.0 ++ piece.took.0,
        g.met.S.ByteSink.more before.took.0 piece.took.0 c.args.sink.now c.loop-done.sink c.stream_piece.new.sink c.args.machine.now c.loop-done.machine c.stream_piece.new.machine before.took.1 piece.took.1,
        λ told.
            piece_more (contents (g.M.Machine.state c.args.machine.now).files c.args.path.now) (contents (g.M.Machine.state c.loop-done.machine).files c.args.path.now)
            before.took.0 piece.took.0 c.args.start c.loop-done.done c.in_ok-done.field-0
            (g.met.S.ByteSink.keeps before.took.0 c.args.sink.now c.loop-done.sink c.args.machine.now c.loop-done.machine c.args.path.now c.requires.can before.took.1 told c.know.ensures.lasting)
            (before.took.2 told) (piece.took.2 told),
      );
      counts = search rules;
      taken = λ told. omega (arith, before.taken told, piece.taken told);
    }
