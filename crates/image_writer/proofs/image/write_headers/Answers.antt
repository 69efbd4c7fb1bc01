use Rattle.std.proofs.Common.{ℕ, List, refl, ap, arith}
use Rattle.install_steps.proofs.Appending.{appends_none, appends_on, appends_failed, appends-there, appends-source}
use Rattle.install_steps.specs.proofs.AppendLaws.{grown_none, grown_on, grown_as}
use Rattle.image_writer.proofs.Filled.{flat_map-next}
use Rattle.image_writer.specs.Chunks.{chunks_bytes, section_chunks}
use Rattle.image_writer.specs.Sourced.{new_sbat, stub_path}
use Rattle.image_writer.specs.declared.chunk.Chunk.{Chunk}
use Rattle.image_writer.specs.Taken.{chunks_length}
use Rattle.image_writer.proofs.image.write_headers.Goals as goal

pub loop-section-init : goal.loop-section-init
loop-section-init g c = record {
  appends = appends_none (g.met.M.Machine.only_now c.args.machine.now) refl;
  grown = λ told. grown_none c.args.temp.now (g.M.Machine.state c.args.machine.now);
  taken = λ told. omega arith;
}

pub write_chunks-requires : goal.write_chunks-requires
write_chunks-requires g c = record {
  there = appends-there c.loop-section.invariant.appends c.requires.there;
}

pub returns-in_err-write_chunks-clause-appends : goal.returns-in_err-write_chunks-clause-appends
returns-in_err-write_chunks-clause-appends g c = appends_failed c.from_residual.result c.from_residual.ensures.0 c.loop-section.invariant.appends c.in_err-write_chunks.ensures.appends

pub loop-section-preserved : goal.loop-section-preserved
loop-section-preserved g c = record {
  appends = appends_on c.loop-section.invariant.appends c.in_ok-write_chunks.ensures.appends;
  grown = λ told.
      grown_as _ _ _ _ _
      (flat_map-next (λ (stub : List ℕ) (cs : List Chunk). chunks_bytes stub
      (new_sbat c.args.sources.now) cs) section_chunks _ _ c.args.sections.now c.loop-section.section-index _ _ c.loop-section-test.true
      (appends-source (stub_path c.args.sources.now) c.know-2.ensures c.know.ensures.lasting c.loop-section.invariant.appends told) c.section_chunks.ensures)
      (grown_on _ _ _ _ _ _ (c.loop-section.invariant.grown told) (c.in_ok-write_chunks.ensures.grows told));
  taken = λ told. omega (arith, c.loop-section.invariant.taken told, c.in_ok-write_chunks.ensures.taken told, ap chunks_length c.section_chunks.ensures);
}

pub returns-in_err-write_chunks-clause-taken : goal.returns-in_err-write_chunks-clause-taken
returns-in_err-write_chunks-clause-taken g c told = omega (arith, c.loop-section.invariant.taken told, c.write_chunks.ensures.taken told, ap chunks_length c.section_chunks.ensures)
