-- How many whole commands of each run make what boot sees at the end of a history.
use Rattle.std.specs.Prelude.{◌≡◌, ◌⊎◌, ℕ, ◌+◌, ◌≤◌, List, [], ◌∷◌, length, take, Result, Ok, Err}
use Rattle.tool_words.specs.declared.fault.UsageReason.{UsageReason}
use Rattle.boot_machine.specs.Disk.{Files, IsIn}
use Rattle.boot_machine.specs.Rows.{on_channel}
use Rattle.boot_machine.specs.Sent.{Sent, IsPrefix, latest_view}
use Rattle.boot_machine.specs.declared.machine.Channel.TheVariants.{Err as ErrChannel}
use Rattle.boot_run.specs.AskedLines.{usage_line}
use Rattle.boot_run.specs.Step.{Acknowledges, join_replies, replies, view_after}
use Rattle.boot_run.specs.declared.line.Line.{Line}
use Rattle.boot_history.specs.Histories.{Run, IsHistory, IsStart, asked_at, state_after}

-- From this view a run that printed this may have done n of these lines, whole: those that it acknowledged, or one
-- more. What it printed is a first part of their replies.
pub record MayDo (view : Files) (lines : List Line) (sent : Sent) (n : ℕ) : Type 0 where
  pub acked : ℕ
  pub is_acked : Acknowledges (replies view lines) sent acked
  pub one_more : (n ≡ acked) ⊎ (n ≡ acked + 1)
  pub within : n ≤ length lines
  pub front : IsPrefix sent (join_replies (replies view lines))

-- words that are no command do nothing, and a first part of the usage line is printed
pub record DoesNothing (line : Sent) (sent : Sent) (n : ℕ) : Type 0 where
  pub none : n ≡ 0
  pub front : IsPrefix sent line

-- how many lines a run may have done, by what its words ask for: lines, or nothing where they are no command
abbrev pub MayDoBy : Files → Result (List Line) UsageReason → Sent → ℕ → Type 0
MayDoBy view (Ok lines) sent n = MayDo view lines sent n
MayDoBy view (Err reason) sent n = DoesNothing (on_channel ErrChannel (usage_line reason)) sent n

-- the view after the first n of the lines that are asked for
abbrev pub after_some : Files → Result (List Line) UsageReason → ℕ → Files
after_some view (Ok lines) n = view_after view (take n lines)
after_some view (Err reason) n = view

-- the view after so many lines of each run, in order, each asked at the view that the earlier ones give
abbrev pub after_runs : Files → List Run → List ℕ → Files
after_runs view [] numbers = view
after_runs view (run ∷ runs) [] = view
after_runs view (run ∷ runs) (n ∷ numbers) = after_runs (after_some view (asked_at view run) n) runs numbers

-- there is a number for each run, and the run may have done so many lines from the view that the earlier numbers give
abbrev pub FitRuns : Files → List Run → List ℕ → Type 0
FitRuns view [] [] = Unit {0}
FitRuns view [] (n ∷ numbers) = ⊥
FitRuns view (run ∷ runs) [] = ⊥
FitRuns view (run ∷ runs) (n ∷ numbers) =
    MayDoBy view (asked_at view run) run.sent n × FitRuns (after_some view (asked_at view run) n) runs numbers

-- from the first view, so many lines of each run in order give this one
pub record IsDueTo (first : Files) (runs : List Run) (view : Files) : Type 0 where
  pub numbers : List ℕ
  pub fit : FitRuns first runs numbers
  pub is : view ≡ after_runs first runs numbers

-- Each view at the end of a history is due to whole commands of its runs: of each run those that it acknowledged or
-- one more.
abbrev pub HistoryLaw : Type 0
HistoryLaw =
    (first : List Files) (runs : List Run) → IsStart first → IsHistory first runs
    → (view : Files) → IsIn view (state_after first runs) → IsDueTo (latest_view first) runs view
