-- What is so of the lines that the runs of a history ask for.
use Rattle.std.specs.Prelude.{◌≡◌, ℕ, Bool, false, List, [], ◌∷◌, Result, Ok, Err}
use Rattle.boot_machine.specs.Disk.{Files}
use Rattle.boot_machine.specs.Sent.{latest_view}
use Rattle.tool_words.specs.Meaning.{meaning}
use Rattle.tool_words.specs.declared.command.Command.{Command}
use Rattle.tool_words.specs.declared.fault.UsageReason.{UsageReason}
use Rattle.boot_run.specs.AskedLines.{lines_for}
use Rattle.boot_run.specs.declared.line.Line.{Line}
use Rattle.boot_history.specs.Histories.{Run}

-- it is so of each line
abbrev pub AllLines : (Line → Type 0) → List Line → Type 0
AllLines P [] = Unit {0}
AllLines P (line ∷ lines) = P line × AllLines P lines

-- It is so of each line that is asked for on this view. Of some commands nothing is asked, whatever their lines are.
abbrev pub EachMeans : (Command → Bool) → (Line → Type 0) → Files → List ℕ → Result Command UsageReason → Type 0
EachMeans is_free P view input (Ok c) = is_free c ≡ false → AllLines P (lines_for input view c)
EachMeans is_free P view input (Err reason) = Unit {0}

-- It is so of each line that the runs from this state on ask for, each by its words on the view at its start. Of some
-- commands nothing is asked, whatever their lines are.
abbrev pub EachAsks : (Command → Bool) → (Line → Type 0) → List Files → List Run → Type 0
EachAsks is_free P state [] = Unit {0}
EachAsks is_free P state (run ∷ runs) =
    EachMeans is_free P (latest_view state) run.input (meaning run.words) × EachAsks is_free P run.left runs
