-- The run of a command, whose lines are its own, those that it stands for, or those of a script.
use Rattle.std.specs.Prelude.{◌≡◌, Bool, IsTrue, OnOk, Ok, Result, true}
use Rattle.boot_machine.specs.Counts.{Counts}
use Rattle.boot_machine.specs.Disk.{IsRested, State}
use Rattle.boot_machine.specs.Images.{IsFirm}
use Rattle.boot_machine.specs.Moments.{Timeline}
use Rattle.tool_words.specs.declared.command.Command.{Command}
use Rattle.command_plans.specs.Performs.{CountsRunError, LeavesNoTemp}
use Rattle.command_plans.specs.declared.outcome.RunError.{RunError}
use Rattle.boot_run.specs.AskedLines.{lines_at}
use Rattle.boot_run.specs.Endings.{AllTidied, TakesInput, ended_by}
use Rattle.boot_run.specs.Lines.{has_command}
use Rattle.boot_run.specs.RunBy.{CleanBehind}
use Rattle.boot_run.specs.RunsTo.{IsSyncedBy, RunsTo}
use Rattle.boot_run.specs.Spared.{RunSpares}

-- what the run of a command comes to, by the lines that it has on the views at its start
pub record RunsCommand {D : Type 0} (tells : Bool) (time : Timeline D) (state : D → State) (counts : D → Counts)
    (old new : D) (command : Command) (result : Result Bool RunError) : Type 0 where
  pub runs : IsTrue tells → IsFirm (state old) → RunsTo time state old new (lines_at (state old) command) result
  pub synced : IsTrue tells → IsFirm (state old) → IsSyncedBy time state old new (lines_at (state old) command)
  pub tidies : OnOk result (IsTrue tells → AllTidied (lines_at (state old) command) (state new))
  pub rests : OnOk result (IsTrue tells
      → has_command (lines_at (state old) command) ≡ true → IsRested (state new))
  pub behind : IsTrue tells → IsFirm (state old)
      → CleanBehind (state old) (state new) (lines_at (state old) command) (ended_by result)
  pub input : IsTrue tells → TakesInput (Ok command) (ended_by result) (state old).input (state new).input
  pub temps : IsTrue tells → LeavesNoTemp result (state old) (state new)
  pub spares : IsTrue tells → IsFirm (state old) → RunSpares command (state old) (state new)
  pub counted : CountsRunError result (counts old) (counts new)
