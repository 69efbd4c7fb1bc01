use Rattle.std.proofs.Common.{IsTrue, take, sym}
use Rattle.boot_machine.specs.Prelude.{TookSome}
use Rattle.boot_machine.proofs.Pieces.{after_error}
use Rattle.boot_machine.proofs.stream.stream_piece.Goals as goal

pub take-requires : goal.take-requires
take-requires g c =
    g.met.S.ByteSink.goes_on _ c.args.sink.now c.args.sink.now c.args.machine.now c.read_piece.new.machine c.requires.can
    (g.met.S.ByteSink.reads c.args.sink.now c.args.machine.now c.read_piece.new.machine c.read_piece.ensures.looks.reads)

pub returns-in_err-take-clause-some : goal.returns-in_err-take-clause-some
returns-in_err-take-clause-some g c =
    let more : IsTrue g.M.Machine.tells → TookSome g.S.ByteSink.took c.args.sink.now c.args.machine.now c.take.new.self c.take.new.machine = λ told.
    let rest = c.in_err-take.ensures.some told in (
      _,
      g.met.S.ByteSink.more _ rest.0 c.args.sink.now c.args.sink.now c.take.new.self c.args.machine.now c.read_piece.new.machine c.take.new.machine
          (g.met.S.ByteSink.reads c.args.sink.now c.args.machine.now c.read_piece.new.machine c.read_piece.ensures.looks.reads) rest.1,
    )
    in
    after_error c.from_residual-in_err-take.result _ more

pub returns-clause-took : goal.returns-clause-took
returns-clause-took g c = (
  take c.in_ok-count.count c.read_piece.new.buffer,
  g.met.S.ByteSink.more _ (take c.in_ok-count.count c.read_piece.new.buffer) c.args.sink.now c.args.sink.now c.take.new.self c.args.machine.now c.read_piece.new.machine c.take.new.machine
      (g.met.S.ByteSink.reads c.args.sink.now c.args.machine.now c.read_piece.new.machine c.read_piece.ensures.looks.reads) c.in_ok-take.ensures.took,
  rw (sym c.file.ensures.path) c.in_ok-count.ensures.bytes,
)
