use Rattle.std.proofs.Common.{◌≡◌, IsTrue, take}
use Rattle.boot_machine.specs.Prelude.{TakesAtMost}
use Rattle.install_steps.specs.Appends.{Appends, IsGrown}
use Rattle.std.proofs.Common.{◌<◌, sum_by, flat_map}
use Rattle.uki_parts.specs.Pieces.{Reading}
use Rattle.image_writer.specs.Chunks.{Agrees, padded_part}
use Rattle.image_writer.specs.Taken.{part_reading}
use Rattle.image_writer.proofs.part.write_each_part.Given as goal

abbrev pub invariant-loop-part : goal.invariant-loop-part
invariant-loop-part g l = record {
  appends : Appends g.M.Machine.tells g.M.Machine.time g.M.Machine.state g.M.Machine.counts (λ before now. now ≡ before) l.temp l.initial.machine l.machine;
  grown : IsTrue g.M.Machine.tells → 0 < l.unit → (files : Reading) → Agrees files (g.M.Machine.state l.initial.machine).files
      → IsGrown l.temp (flat_map (padded_part files l.unit) (take l.part-index l.parts)) (g.M.Machine.state l.initial.machine) (g.M.Machine.state l.machine);
  taken : IsTrue g.M.Machine.tells → TakesAtMost (sum_by part_reading (take l.part-index l.parts)) (g.M.Machine.taken l.initial.machine) (g.M.Machine.taken l.machine);
}
