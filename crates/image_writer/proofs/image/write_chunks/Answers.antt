use Rattle.std.proofs.Common.{◌+◌, ℕ, List, refl, arith}
use Rattle.install_steps.proofs.Appending.{appends_none, appends_on, appends_failed, appends-there, appends-source}
use Rattle.install_steps.specs.proofs.AppendLaws.{grown_none, grown_on, grown_as}
use Rattle.image_writer.specs.Taken.{chunk_length}
use Rattle.image_writer.proofs.Filled.{flat_map-next, reads_all, reads_more}
use Rattle.image_writer.specs.Chunks.{chunk_bytes}
use Rattle.image_writer.specs.Sourced.{new_sbat, stub_path}
use Rattle.image_writer.specs.declared.chunk.Chunk.{Chunk}
use Rattle.image_writer.proofs.image.write_chunks.Goals as goal

pub loop-chunk-init : goal.loop-chunk-init
loop-chunk-init g c = record {
  appends = appends_none (g.met.M.Machine.only_now c.args.machine.now) refl;
  grown = λ told. grown_none c.args.temp.now (g.M.Machine.state c.args.machine.now);
  taken = λ told. omega arith;
}

pub write_chunk-requires : goal.write_chunk-requires
write_chunk-requires g c = record {
  there = appends-there c.loop-chunk.invariant.appends c.requires.there;
}

pub returns-in_err-write_chunk-clause-appends : goal.returns-in_err-write_chunk-clause-appends
returns-in_err-write_chunk-clause-appends g c = appends_failed c.from_residual.result c.from_residual.ensures.0 c.loop-chunk.invariant.appends c.in_err-write_chunk.ensures.appends

pub loop-chunk-preserved : goal.loop-chunk-preserved
loop-chunk-preserved g c = record {
  appends = appends_on c.loop-chunk.invariant.appends c.in_ok-write_chunk.ensures.appends;
  grown = λ told.
      grown_as _ _ _ _ _
      (flat_map-next (λ (stub : List ℕ) (x : Chunk). chunk_bytes stub (new_sbat c.args.sources.now) x) (λ (x : Chunk). x) _ _ c.args.chunks.now c.loop-chunk.chunk-index _ _ c.loop-chunk-test.true
      (appends-source (stub_path c.args.sources.now) c.know-2.ensures c.know.ensures.lasting c.loop-chunk.invariant.appends told) refl)
      (grown_on _ _ _ _ _ _ (c.loop-chunk.invariant.grown told) (c.in_ok-write_chunk.ensures.grows told));
  taken = λ told. reads_more chunk_length c.args.chunks.now c.loop-chunk.chunk-index _ _ _ _ c.loop-chunk-test.true (c.loop-chunk.invariant.taken told) (c.in_ok-write_chunk.ensures.taken told);
}

pub returns-in_err-write_chunk-clause-taken : goal.returns-in_err-write_chunk-clause-taken
returns-in_err-write_chunk-clause-taken g c told =
    reads_all chunk_length c.args.chunks.now (c.loop-chunk.chunk-index + 1) _ _
    (reads_more chunk_length c.args.chunks.now c.loop-chunk.chunk-index _ _ _ _ c.loop-chunk-test.true (c.loop-chunk.invariant.taken told) (c.write_chunk.ensures.taken told))
