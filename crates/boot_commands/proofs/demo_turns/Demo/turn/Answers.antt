use Rattle.std.proofs.lemmas.Result.{IfOk-weaker}
use Rattle.boot_machine.specs.Prelude.{seen}
use Rattle.memory_machine.specs.Memory.{mem_state}
use Rattle.boot_commands.specs.DemoRuns.{demo_state}
use Rattle.boot_commands.proofs.Turning.{turned}
use Rattle.boot_commands.proofs.demo_turns.Demo.turn.Goals as goal

pub returns-clause-turn : goal.returns-clause-turn
returns-clause-turn c = IfOk-weaker c.run-result.result _ _ (λ _ run.
    turned c.args.self.now c.draw.new.self (seen (mem_state c.args.machine.now)) c.in_ok-command.command (demo_state c.run-result.new.self (seen (mem_state c.run-result.new.machine)))
    (record { number = c.in_ok-command.ensures.number; entry = c.in_ok-command.ensures.same.0; done = c.in_ok-command.ensures.same.1; refused = c.in_ok-command.ensures.same.2 })
    c.in_ok-command.ensures.command run) c.run-result.ensures.run
