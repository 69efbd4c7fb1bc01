use Rattle.std.proofs.Common.{◌≡◌, ◌∙◌, ◌++◌, ap, sym, refl, rules, arith, length}
use Rattle.boot_machine.proofs.Reading.{reads_none, reads_on}
use Rattle.boot_machine.specs.Prelude.{State, contents, seen}
use Rattle.uki_parts.specs.Pieces.{piece_bytes, piece_length}
use Rattle.uki_parts.specs.declared.piece.Piece.{Piece}
use Rattle.image_build.specs.Building.{source_bytes}
use Rattle.image_build.specs.Reads.{source_limit}
use Rattle.image_build.proofs.BuiltImage.{all_more, made_more, one_refused, sum_more}
use Rattle.command_plans.proofs.Each.{count_more, each_none, one_over}
use Rattle.image_build.proofs.build_reads.source_pieces.Goals as goal

pub loop-source-init : goal.loop-source-init
loop-source-init g c = record {
  left = sym c.into_iter-source-iterator.ensures.into_iter_gives.0;
  count = search rules;
  limit = search rules;
  found = λ told. rw c.new-pieces.ensures.items (each_none _);
  sizes = λ told. search rules;
  reads = λ told. reads_none g.M.Machine.time g.M.Machine.state c.args.machine.now (λ m o left. g.met.M.Machine.only_now c.args.machine.now m o told left);
  taken = λ told. omega arith;
  counts = refl;
}

pub returns-in_err-piece-clause-says : goal.returns-in_err-piece-clause-says
returns-in_err-piece-clause-says g c told =
    let before = c.loop-source.invariant in
    one_refused _ (λ (s : State). source_bytes (seen s)) (g.M.Machine.state c.args.machine.now) (g.M.Machine.state c.loop-source.machine)
    c.args.sources.items c.loop-source.yielded c.next.new.self.rest.items _ c.in-Some.source
    c.in_err-piece.field-0.0 c.from_residual.result (before.reads told).same
    (before.left ∙ ap (λ l. c.loop-source.yielded ++ l) c.in-Some.ensures.steps.0) (before.found told) (c.in_err-piece.ensures.says told)
    c.from_residual.ensures.0 c.from_residual.ensures.1

pub returns-in_err-piece-clause-looks : goal.returns-in_err-piece-clause-looks
returns-in_err-piece-clause-looks g c = record {
  reads = λ told. reads_on g.M.Machine.time g.M.Machine.state _ _ _ (c.loop-source.invariant.reads told) (c.in_err-piece.ensures.looks.reads told);
  counted = search rules;
}

pub loop-source-preserved : goal.loop-source-preserved
loop-source-preserved g c =
    let before = c.loop-source.invariant in
    record {
      left = before.left ∙ one_over c.loop-source.yielded c.in-Some.source c.loop-source.source-iterator.rest.items c.next.new.self.rest.items c.in-Some.ensures.steps.0;
      count = count_more c.loop-source.yielded c.in-Some.source c.loop-source.pieces.items c.push.new.self.items c.in_ok-piece.piece before.count c.in_ok-push.ensures.items;
      limit =
          sum_more piece_length source_limit c.loop-source.yielded c.loop-source.pieces.items c.push.new.self.items c.in-Some.source
          c.in_ok-piece.piece before.limit c.in_ok-piece.ensures.limit c.in_ok-push.ensures.items;
      found = λ told.
          made_more (λ (s : State). source_bytes (seen s)) (λ (s : State). piece_bytes (contents (seen s))) (g.M.Machine.state c.args.machine.now) (g.M.Machine.state c.loop-source.machine)
          c.loop-source.yielded c.loop-source.pieces.items c.push.new.self.items c.in-Some.source c.in_ok-piece.piece
          (before.reads told).same (before.found told) (c.in_ok-piece.ensures.says told) c.in_ok-push.ensures.items;
      sizes = λ told.
          all_more (λ (s : State) (piece : Piece). length (piece_bytes (contents (seen s)) piece) ≡ piece_length piece) (g.M.Machine.state c.args.machine.now) (g.M.Machine.state c.loop-source.machine)
          c.loop-source.pieces.items c.push.new.self.items c.in_ok-piece.piece (before.reads told).same (before.sizes told) (c.in_ok-piece.ensures.size told) c.in_ok-push.ensures.items;
      reads = λ told. reads_on g.M.Machine.time g.M.Machine.state _ _ _ (before.reads told) (c.in_ok-piece.ensures.looks.reads told);
      taken = λ told. omega (arith, before.taken told, c.in_ok-piece.ensures.taken told);
      counts = search rules;
    }

pub returns-in_err-push-clause-looks : goal.returns-in_err-push-clause-looks
returns-in_err-push-clause-looks g c = record {
  reads = λ told. reads_on g.M.Machine.time g.M.Machine.state _ _ _ (c.loop-source.invariant.reads told) (c.in_ok-piece.ensures.looks.reads told);
  counted = search rules;
}

pub returns-in_err-piece-clause-taken : goal.returns-in_err-piece-clause-taken
returns-in_err-piece-clause-taken g c told = omega (arith, c.loop-source.invariant.taken told, c.in_err-piece.ensures.taken told)

pub returns-in_err-push-clause-taken : goal.returns-in_err-push-clause-taken
returns-in_err-push-clause-taken g c told = omega (arith, c.loop-source.invariant.taken told, c.in_ok-piece.ensures.taken told)
