use Rattle.std.proofs.Common.{◌≡◌, IsTrue, take, flat_map}
use Rattle.boot_machine.specs.Prelude.{contents, TakesAtMost}
use Rattle.install_steps.specs.Appends.{Appends, IsGrown}
use Rattle.image_writer.specs.Chunks.{chunks_bytes, section_chunks}
use Rattle.image_writer.specs.Sourced.{stub_path, new_sbat}
use Rattle.image_writer.proofs.image.write_headers.Given as goal

abbrev pub invariant-loop-section : goal.invariant-loop-section
invariant-loop-section g l = record {
  appends : Appends g.M.Machine.tells g.M.Machine.time g.M.Machine.state g.M.Machine.counts (λ before now. now ≡ before) l.temp l.initial.machine l.machine;
  grown : IsTrue g.M.Machine.tells → IsGrown l.temp (flat_map
      (λ s. chunks_bytes (contents (g.M.Machine.state l.initial.machine).files (stub_path l.sources)) (new_sbat l.sources) (section_chunks s)) (take l.section-index l.sections)) (g.M.Machine.state l.initial.machine) (g.M.Machine.state l.machine);
  taken : IsTrue g.M.Machine.tells → TakesAtMost 0 (g.M.Machine.taken l.initial.machine) (g.M.Machine.taken l.machine);
}
