-- Which temporary files a run leaves as they are.
use Rattle.std.specs.Prelude.{◌≡◌, true, List, [], ◌∷◌}
use Rattle.std.specs.FinMap.{get}
use Rattle.boot_base.specs.Paths.{Path, is_temp}
use Rattle.boot_machine.specs.Disk.{Files, State}
use Rattle.boot_machine.specs.Sent.{recovered_now}
use Rattle.tool_words.specs.declared.command.Command.{Command}
use Rattle.tool_words.specs.declared.command.Command.TheVariants as command
use Rattle.command_plans.specs.Plans.{IsSparedBy}
use Rattle.boot_commands.specs.Commands.{OneSpares}
use Rattle.boot_commands.specs.Replies.{action_reply}
use Rattle.boot_commands.specs.Sweeps.{MaySweep}
use Rattle.boot_run.specs.AskedLines.{lines_at}
use Rattle.boot_run.specs.Lines.{line_deed}
use Rattle.boot_run.specs.declared.line.Line.{Line}
use Rattle.boot_run.specs.declared.line.Line.TheVariants.{Plain, Part, Numbered, Unread, TooLong}

-- a line leaves this temporary file of a machine that shows this view as it is
abbrev pub LineSpares : Files → Line → Path → Type 0
LineSpares view (Plain command) q = OneSpares view command q
LineSpares view (Part action) q = IsSparedBy (action_reply view action) q
LineSpares view (Numbered number command) q = OneSpares view command q
LineSpares view (Unread number) q = Unit {0}
LineSpares view TooLong q = Unit {0}

-- so does each of these lines, on the view that those before it leave
abbrev pub AllSpare : Files → List Line → Path → Type 0
AllSpare view [] q = Unit {0}
AllSpare view (line ∷ lines) q = LineSpares view line q × AllSpare (line_deed view line).after lines q

-- the temporary files that a line spares are as they were
abbrev pub LineKeeps : Files → Line → Files → Files → Type 0
LineKeeps view line old new = (q : Path) → is_temp q ≡ true → LineSpares view line q → get new q ≡ get old q

-- those that all these lines spare are as they were
abbrev pub AllKeep : Files → List Line → Files → Files → Type 0
AllKeep view lines old new = (q : Path) → is_temp q ≡ true → AllSpare view lines q → get new q ≡ get old q

-- this temporary file isn't one of those that go with a command of several actions
abbrev pub SweepSpares : Command → Path → Type 0
SweepSpares command.Script q = Unit {0}
SweepSpares (command.One c) q = Unit {0}
SweepSpares (command.Several c) q = MaySweep c q → ⊥

-- Behind the run of a command each temporary file is as it was that doesn't go with the command and that each of its
-- lines spares.
abbrev pub RunSpares : Command → State → State → Type 0
RunSpares c old new =
    (q : Path) → is_temp q ≡ true → SweepSpares c q → AllSpare (recovered_now old) (lines_at old c) q
    → get new.files q ≡ get old.files q
