use Rattle.std.proofs.Common.{◌≡◌, ◌++◌, IsTrue, Ok, map, All}
use Rattle.std.specs.List.{AllZip}
use Rattle.boot_machine.specs.Prelude.{OnlyReads, TakesAtMost, contents, seen}
use Rattle.image_build.specs.Building.{part_bytes, part_named}
use Rattle.command_plans.specs.Prelude.{each}
use Rattle.image_build.specs.Reads.{PartFrom, PartHasSizes, part_as}
use Rattle.image_build.proofs.build_reads.parts_of_sources.Given as goal

abbrev pub invariant-loop-source : goal.invariant-loop-source
invariant-loop-source g l = record {
  left : l.fn.sources.items ≡ l.yielded ++ l.source-iterator.rest.items;
  from : AllZip PartFrom l.yielded l.parts.items;
  found : IsTrue g.M.Machine.tells
      → each (part_bytes (seen (g.M.Machine.state l.initial.machine))) (map part_named l.yielded) ≡ Ok
      (map (part_as (contents (seen (g.M.Machine.state l.initial.machine)))) l.parts.items);
  sizes : IsTrue g.M.Machine.tells → All (PartHasSizes (contents (seen (g.M.Machine.state l.initial.machine)))) l.parts.items;
  reads : IsTrue g.M.Machine.tells → OnlyReads g.M.Machine.time g.M.Machine.state l.initial.machine l.machine;
  taken : IsTrue g.M.Machine.tells → TakesAtMost 0 (g.M.Machine.taken l.initial.machine) (g.M.Machine.taken l.machine);
  counts : g.M.Machine.counts l.machine ≡ g.M.Machine.counts l.initial.machine;
}
