use Rattle.std.proofs.Common.{refl, sym, ◌∙◌, ap, arith}
use Rattle.std.proofs.lemmas.List.Sums.{sum_by_more}
use Rattle.boot_base.specs.Paths.{Path}
use Rattle.install_steps.proofs.Appending.{appends_none, appends_on, appends_failed, appends-there, appends-source}
use Rattle.install_steps.specs.proofs.AppendLaws.{grown_none, grown_on, grown_as}
use Rattle.uki_parts.specs.Pieces.{file_length}
use Rattle.image_writer.proofs.Filled.{flat_map-more, flat_map-all}
use Rattle.image_writer.specs.Chunks.{given_bytes}
use Rattle.image_writer.proofs.part.write_pieces.Goals as goal

pub loop-piece-init : goal.loop-piece-init
loop-piece-init g c = record {
  appends = appends_none (g.met.M.Machine.only_now c.args.machine.now) refl;
  grown = λ told files agrees. grown_none c.args.temp.now (g.M.Machine.state c.args.machine.now);
  taken = λ told. omega arith;
}

pub write_piece-requires : goal.write_piece-requires
write_piece-requires g c = record {
  there = appends-there c.loop-piece.invariant.appends c.requires.there;
}

pub returns-in_err-write_piece-clause-appends : goal.returns-in_err-write_piece-clause-appends
returns-in_err-write_piece-clause-appends g c = appends_failed c.from_residual.result c.from_residual.ensures.0 c.loop-piece.invariant.appends c.in_err-write_piece.ensures.appends

pub loop-piece-preserved : goal.loop-piece-preserved
loop-piece-preserved g c = record {
  appends = appends_on c.loop-piece.invariant.appends c.in_ok-write_piece.ensures.appends;
  grown = λ told files agrees.
      grown_as _ _ _ _ _
      (flat_map-more (given_bytes files) c.args.pieces.now c.loop-piece.piece-index c.piece-item.result c.loop-piece-test.true c.piece-item.is)
      (grown_on _ _ _ _ _ _ (c.loop-piece.invariant.grown told files agrees) (c.in_ok-write_piece.ensures.grows told files
      (λ (q : Path) shown. agrees q shown ∙ sym (appends-source q c.know.ensures shown c.loop-piece.invariant.appends told))));
  taken = λ told.
      omega (
        arith,
        c.loop-piece.invariant.taken told,
        c.in_ok-write_piece.ensures.taken told,
        ap file_length c.piece-item.is,
        sum_by_more file_length c.args.pieces.now c.loop-piece.piece-index c.piece-item.result (omega arith),
      );
}

pub returns-clause-grows : goal.returns-clause-grows
returns-clause-grows g c told files agrees =
    grown_as _ _ _ _ _ (flat_map-all (given_bytes files) c.args.pieces.now c.loop-piece.piece-index c.loop-piece-test.false) (c.loop-piece.invariant.grown told files agrees)
