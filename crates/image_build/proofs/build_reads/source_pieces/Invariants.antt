use Rattle.std.proofs.Common.{◌≡◌, ◌≤◌, ◌++◌, length, IsTrue, Ok, map, sum_by}
use Rattle.boot_machine.specs.Prelude.{OnlyReads, TakesAtMost, contents, seen}
use Rattle.uki_parts.specs.Pieces.{HasSizes, piece_bytes, total_length}
use Rattle.image_build.specs.Building.{source_bytes}
use Rattle.command_plans.specs.Prelude.{each}
use Rattle.image_build.specs.Reads.{source_limit}
use Rattle.image_build.proofs.build_reads.source_pieces.Given as goal

abbrev pub invariant-loop-source : goal.invariant-loop-source
invariant-loop-source g l = record {
  left : l.fn.sources.items ≡ l.yielded ++ l.source-iterator.rest.items;
  count : length l.pieces.items ≡ length l.yielded;
  limit : total_length l.pieces.items ≤ sum_by source_limit l.yielded;
  found : IsTrue g.M.Machine.tells
      → each (source_bytes (seen (g.M.Machine.state l.initial.machine))) l.yielded ≡ Ok
      (map (piece_bytes (contents (seen (g.M.Machine.state l.initial.machine)))) l.pieces.items);
  sizes : IsTrue g.M.Machine.tells → HasSizes (contents (seen (g.M.Machine.state l.initial.machine))) l.pieces.items;
  reads : IsTrue g.M.Machine.tells → OnlyReads g.M.Machine.time g.M.Machine.state l.initial.machine l.machine;
  taken : IsTrue g.M.Machine.tells → TakesAtMost 0 (g.M.Machine.taken l.initial.machine) (g.M.Machine.taken l.machine);
  counts : g.M.Machine.counts l.machine ≡ g.M.Machine.counts l.initial.machine;
}
