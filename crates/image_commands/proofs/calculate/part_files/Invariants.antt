use Rattle.std.proofs.Common.{◌≡◌, ◌++◌, IsTrue, Ok, map, All}
use Rattle.boot_machine.specs.Prelude.{OnlyReads, TakesAtMost, contents, seen}
use Rattle.command_plans.specs.Prelude.{bytes_at, each}
use Rattle.image_commands.specs.Calculating.{under_name}
use Rattle.image_commands.specs.Parts.{HasItsSize, named_file, named_path}
use Rattle.image_commands.proofs.calculate.part_files.Given as goal

abbrev pub invariant-loop-name : goal.invariant-loop-name
invariant-loop-name g l = record {
  left : l.fn.paths.items ≡ l.yielded ++ l.name-iterator.rest.items;
  found : IsTrue g.M.Machine.tells
      → each (under_name (bytes_at (seen (g.M.Machine.state l.initial.machine)))) (map named_path l.yielded) ≡ Ok
      (map (named_file (contents (seen (g.M.Machine.state l.initial.machine)))) l.files.items);
  sizes : IsTrue g.M.Machine.tells → All (HasItsSize (contents (seen (g.M.Machine.state l.initial.machine)))) l.files.items;
  reads : IsTrue g.M.Machine.tells → OnlyReads g.M.Machine.time g.M.Machine.state l.initial.machine l.machine;
  counts : g.M.Machine.counts l.machine ≡ g.M.Machine.counts l.initial.machine;
  taken : IsTrue g.M.Machine.tells → TakesAtMost 0 (g.M.Machine.taken l.initial.machine) (g.M.Machine.taken l.machine);
}
