use Rattle.std.proofs.Common.{◌≡◌, IsTrue, take, sum_by, flat_map}
use Rattle.boot_machine.specs.Prelude.{TakesAtMost, contents}
use Rattle.install_steps.specs.Appends.{Appends, IsGrown}
use Rattle.image_writer.specs.Chunks.{chunk_bytes}
use Rattle.image_writer.specs.Sourced.{stub_path, new_sbat}
use Rattle.image_writer.specs.Taken.{chunk_length}
use Rattle.image_writer.proofs.image.write_chunks.Given as goal

abbrev pub invariant-loop-chunk : goal.invariant-loop-chunk
invariant-loop-chunk g l = record {
  appends : Appends g.M.Machine.tells g.M.Machine.time g.M.Machine.state g.M.Machine.counts (λ before now. now ≡ before) l.temp l.initial.machine l.machine;
  grown : IsTrue g.M.Machine.tells → IsGrown l.temp (flat_map
      (chunk_bytes (contents (g.M.Machine.state l.initial.machine).files (stub_path l.sources)) (new_sbat l.sources)) (take l.chunk-index l.chunks)) (g.M.Machine.state l.initial.machine) (g.M.Machine.state l.machine);
  taken : IsTrue g.M.Machine.tells → TakesAtMost (sum_by chunk_length (take l.chunk-index l.chunks)) (g.M.Machine.taken l.initial.machine) (g.M.Machine.taken l.machine);
}
