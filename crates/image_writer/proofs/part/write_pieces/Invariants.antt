use Rattle.std.proofs.Common.{◌≡◌, IsTrue, take, sum_by, flat_map}
use Rattle.boot_machine.specs.Prelude.{TakesAtMost}
use Rattle.install_steps.specs.Appends.{Appends, IsGrown}
use Rattle.uki_parts.specs.Pieces.{Reading, file_length}
use Rattle.image_writer.specs.Chunks.{Agrees, given_bytes}
use Rattle.image_writer.proofs.part.write_pieces.Given as goal

abbrev pub invariant-loop-piece : goal.invariant-loop-piece
invariant-loop-piece g l = record {
  appends : Appends g.M.Machine.tells g.M.Machine.time g.M.Machine.state g.M.Machine.counts (λ before now. now ≡ before) l.temp l.initial.machine l.machine;
  grown : IsTrue g.M.Machine.tells → (files : Reading) → Agrees files (g.M.Machine.state l.initial.machine).files
      → IsGrown l.temp (flat_map (given_bytes files) (take l.piece-index l.pieces)) (g.M.Machine.state l.initial.machine) (g.M.Machine.state l.machine);
  taken : IsTrue g.M.Machine.tells → TakesAtMost (sum_by file_length (take l.piece-index l.pieces)) (g.M.Machine.taken l.initial.machine) (g.M.Machine.taken l.machine);
}
