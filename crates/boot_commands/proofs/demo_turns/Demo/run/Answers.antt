use Rattle.boot_machine.specs.Prelude.{seen}
use Rattle.memory_machine.specs.Memory.{mem_state}
use Rattle.boot_commands.specs.DemoRuns.{demo_state, reply_answer}
use Rattle.boot_commands.proofs.Turning.{counted}
use Rattle.boot_commands.proofs.demo_turns.Demo.run.Goals as goal

pub returns-clause-run : goal.returns-clause-run
returns-clause-run c =
    let before = seen (mem_state c.args.machine.now) in
    let after = seen (mem_state c.reply_of.new.machine) in
    counted (demo_state c.args.self.now before) c.args.self.now.draws.number c.args.command.now (reply_answer c.in_ok-reply.reply after) (demo_state c.count.new.self after)
    c.in_ok-reply.ensures.reply (c.in_ok-count.ensures before after)
