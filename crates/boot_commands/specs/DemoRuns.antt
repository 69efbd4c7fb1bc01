-- How a machine in memory carries a demonstration.
use Rattle.boot_machine.specs.Disk.{Files, IsRested, State}
use Rattle.boot_machine.specs.Images.{IsFirm}
use Rattle.boot_commands.specs.Demonstration.{DemoState}
use Rattle.command_plans.specs.Answers.{Answer}
use Rattle.boot_commands.specs.declared.demo_turns.Demo.{Demo}
use Rattle.boot_commands.specs.declared.demo_turns.Reply.{Reply}

-- a command may run on a machine in this state
pub record IsReady (s : State) : Type 0 where
  pub firm : IsFirm s
  pub rested : IsRested s

-- how far a demonstration has come, with the boot files of its machine
abbrev pub demo_state : Demo → Files → DemoState
demo_state demo files =
    record { number = demo.draws.number; entry = demo.entry; done = demo.done; refused = demo.refused; files = files }

-- what a reply and the files after it come to
abbrev pub reply_answer : Reply → Files → Answer
reply_answer reply files = record { outcome = reply.outcome; after = files; text = reply.text.items }
