use Rattle.std.proofs.Common.{◌≡◌}
use Rattle.boot_machine.specs.Prelude.{seen}
use Rattle.memory_machine.specs.Memory.{mem_state}
use Rattle.boot_commands.specs.Demonstration.{demo_start, demo_turns}
use Rattle.boot_commands.specs.DemoRuns.{IsReady, demo_state}
use Rattle.boot_commands.proofs.demo.demonstrate.Given as goal

abbrev pub invariant-loop : goal.invariant-loop
invariant-loop l = record {
  state : demo_state l.demo (seen (mem_state l.machine)) ≡ demo_turns l.counter (demo_start l.seed);
  ready : IsReady (mem_state l.machine);
}
