-- A history: what a machine went through, as a list of runs. A state is the list of the views that a stop may leave,
-- the last that of the files. Each run takes the state that the one before it left to a state of its own, and ends or
-- is stopped.
use Rattle.std.specs.Prelude.{◌≡◌, ◌≢◌, ◌≤◌, ℕ, List, [], ◌∷◌, map, drop, Result, Ok, Err}
use Rattle.word_grammar.specs.Grammar.{Word}
use Rattle.tool_words.specs.Meaning.{meaning}
use Rattle.tool_words.specs.declared.fault.UsageReason.{UsageReason}
use Rattle.boot_machine.specs.Counts.{Counts}
use Rattle.boot_machine.specs.Disk.{Files, State, IsIn, recovered_view}
use Rattle.boot_machine.specs.Images.{IsImage, IsSettled}
use Rattle.boot_machine.specs.Moments.{EachSince, Timeline}
use Rattle.boot_machine.specs.Sent.{Sent, Adds, latest_view, recovered_views}
use Rattle.boot_machine.specs.declared.machine.Printed.{Printed}
use Rattle.command_plans.specs.Deeds.{End, Finished, Stopped}
use Rattle.boot_run.specs.AskedLines.{asked_lines, asked_lines_of, taken_by}
use Rattle.boot_run.specs.Endings.{AnswersRefusals, AnswersUsage, HasCause, end_at, ended_of, status_of}
use Rattle.boot_run.specs.Step.{IsOneView, Leads, join_replies, some_refused}
use Rattle.boot_run.specs.declared.ended.Ended.{Ended}
use Rattle.boot_run.specs.declared.line.Line.{Line}

-- a run: its words and its standard input, what it printed, how it ended, and the views that it left
pub record Run : Type 0 where
  pub words : List Word
  pub input : List ℕ
  pub sent : Sent
  pub end : End
  pub left : List Files

-- what a run is to do that begins where boot sees this view
abbrev pub asked_at : Files → Run → Result (List Line) UsageReason
asked_at view run = asked_lines run.words run.input view

-- From each state on, a run does what its words ask for at the last view, and leaves some view.
abbrev pub IsHistory : List Files → List Run → Type 0
IsHistory state [] = Unit {0}
IsHistory state (run ∷ runs) =
    Leads state (asked_at (latest_view state) run) run.left run.sent run.end × IsHistory run.left runs

-- the state that these runs leave
abbrev pub state_after : List Files → List Run → List Files
state_after state [] = state
state_after state (run ∷ runs) = state_after run.left runs

-- a history begins where boot sees one view, whatever a stop leaves
pub record IsStart (state : List Files) : Type 0 where
  pub some : state ≢ []
  pub one : IsOneView state

-- it is so of each view of a state
abbrev pub AllViews : (Files → Type 0) → List Files → Type 0
AllViews P state = (view : Files) → IsIn view state → P view

-- and of each state that these runs come by, from their start to their end
abbrev pub AllAlong : (Files → Type 0) → List Files → List Run → Type 0
AllAlong P state [] = AllViews P state
AllAlong P state (run ∷ runs) = AllViews P state × AllAlong P run.left runs

-- a history begins on a settled machine
abbrev pub StartLaw : Type 0
StartLaw = (s : State) → IsSettled s → IsStart (recovered_views s)

-- A run begins with this input and leaves that of it. It takes no more than its words ask for, and where it comes to
-- its end so much.
pub record TakesFrom (run : Run) (input rest : List ℕ) : Type 0 where
  pub begins : run.input ≡ input
  pub count : ℕ
  pub most : count ≤ taken_by (meaning run.words)
  pub leaves : rest ≡ drop count input
  pub whole : run.end ≡ Finished → rest ≡ drop (taken_by (meaning run.words)) input

-- each run begins with the input that the ones before it left
abbrev pub TakeTurns : List ℕ → List Run → List ℕ → Type 0
TakeTurns input [] left = left ≡ input
TakeTurns input (run ∷ runs) left = (rest : List ℕ) × TakesFrom run input rest × TakeTurns rest runs left

-- Of what is asked for, 1 comes exactly where some reply is a refusal, and 2 not at all; of words that are no command
-- only 2, 4 and 5 come.
abbrev pub FitsReplies : Files → Result (List Line) UsageReason → Ended → Type 0
FitsReplies view (Ok lines) ended = AnswersRefusals (some_refused view lines) ended
FitsReplies view (Err reason) ended = AnswersUsage ended

-- a run that begins in this state ends as the status tells
pub record EndsBy (state : List Files) (run : Run) (status : ℕ) : Type 0 where
  pub one : status ≡ status_of (ended_of status)
  pub end : run.end ≡ end_at (ended_of status)
  pub replies : FitsReplies (latest_view state) (asked_at (latest_view state) run) (ended_of status)

-- there is a status for each run, which tells its end
abbrev pub EndBy : List Files → List Run → List ℕ → Type 0
EndBy state [] [] = Unit {0}
EndBy state [] (status ∷ statuses) = ⊥
EndBy state (run ∷ runs) [] = ⊥
EndBy state (run ∷ runs) (status ∷ statuses) = EndsBy state run status × EndBy run.left runs statuses

-- Runs with these words, one after the other, are a history that leads from the one state of a machine to the other.
-- They take its input in turn, end as these statuses tell, and this is all that they printed.
pub record HasHistory (words : List (List Word)) (statuses : List ℕ) (old new : State) (sent : Sent) : Type 0 where
  pub runs : List Run
  pub history : IsHistory (recovered_views old) runs
  pub left : state_after (recovered_views old) runs ≡ recovered_views new
  pub fed : TakeTurns old.input runs new.input
  pub told : EndBy (recovered_views old) runs statuses
  pub spoken : map (λ run. run.words) runs ≡ words
  pub said : join_replies (map (λ run. run.sent) runs) ≡ sent

-- The counts of faults go on from run to run: 3 and 4 only where that count rose, and every other status leaves both.
abbrev pub HaveCauses : List ℕ → Counts → Counts → Type 0
HaveCauses [] old new = new ≡ old
HaveCauses (status ∷ statuses) old new =
    (mid : Counts) × HasCause (ended_of status) old mid × HaveCauses statuses mid new

-- a run of these words led from this state to a stop that leaves these files, and by then this is printed
abbrev pub StopsBy : List Word → State → Files → List Printed → Type 0
StopsBy words old image printed =
    Adds old.printed printed
    (λ sent. Leads (recovered_views old) (asked_lines_of words old) (recovered_view image ∷ []) sent Stopped)

-- A stop behind a run is the stop of that run at its last moment, and so a step of a history.
abbrev pub StopLaw : {M : Type 0} → Timeline M → (M → State) → Type 0
StopLaw {M} time state =
    (words : List Word) (old new : M) → EachSince time old new (StopsBy words (state old))
    → (image : Files) → IsImage (state new) image → StopsBy words (state old) image (state new).printed
