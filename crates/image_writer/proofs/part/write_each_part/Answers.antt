use Rattle.std.proofs.Common.{refl, sym, ◌∙◌, ap, arith}
use Rattle.std.proofs.lemmas.List.Sums.{sum_by_more}
use Rattle.boot_base.specs.Paths.{Path}
use Rattle.install_steps.proofs.Appending.{appends_none, appends_on, appends_failed, appends-there, appends-source}
use Rattle.install_steps.specs.proofs.AppendLaws.{grown_none, grown_on, grown_as}
use Rattle.image_writer.specs.Taken.{part_reading}
use Rattle.image_writer.proofs.Filled.{flat_map-more}
use Rattle.image_writer.specs.Chunks.{padded_part}
use Rattle.image_writer.proofs.part.write_each_part.Goals as goal

pub loop-part-init : goal.loop-part-init
loop-part-init g c = record {
  appends = appends_none (g.met.M.Machine.only_now c.args.machine.now) refl;
  grown = λ told unit files agrees. grown_none c.args.temp.now (g.M.Machine.state c.args.machine.now);
  taken = λ told. omega arith;
}

pub write_part-requires : goal.write_part-requires
write_part-requires g c = record {
  there = appends-there c.loop-part.invariant.appends c.requires.there;
}

pub returns-in_err-write_part-clause-appends : goal.returns-in_err-write_part-clause-appends
returns-in_err-write_part-clause-appends g c = appends_failed c.from_residual.result c.from_residual.ensures.0 c.loop-part.invariant.appends c.in_err-write_part.ensures.appends

pub loop-part-preserved : goal.loop-part-preserved
loop-part-preserved g c = record {
  appends = appends_on c.loop-part.invariant.appends c.in_ok-write_part.ensures.appends;
  grown = λ told unit files agrees.
      grown_as _ _ _ _ _
      (flat_map-more (padded_part files c.args.unit) c.args.parts.now c.loop-part.part-index c.part-item.result c.loop-part-test.true c.part-item.is)
      (grown_on _ _ _ _ _ _ (c.loop-part.invariant.grown told unit files agrees) (c.in_ok-write_part.ensures.grows told unit files
      (λ (q : Path) shown. agrees q shown ∙ sym (appends-source q c.know.ensures shown c.loop-part.invariant.appends told))));
  taken = λ told.
      omega (
        arith,
        c.loop-part.invariant.taken told,
        c.in_ok-write_part.ensures.taken told,
        ap part_reading c.part-item.is,
        sum_by_more part_reading c.args.parts.now c.loop-part.part-index c.part-item.result (omega arith),
      );
}
