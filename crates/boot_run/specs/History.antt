-- What a run over a list of lines may print, leave and answer. A state is the list of the views that a stop may leave,
-- the last that of the files.
use Rattle.std.specs.Prelude.{◌≡◌, ◌⊎◌, ℕ, ◌≤◌, Bool, false, ◌||◌, List, [], ◌∷◌, ◌++◌, length, take, drop}
use Rattle.boot_machine.specs.Disk.{Files, IsIn}
use Rattle.boot_machine.specs.Sent.{Sent, latest_view}
use Rattle.command_plans.specs.Answers.{is_refusal}
use Rattle.command_plans.specs.Deeds.{Deed, End, Finished, Stopped, NoMemory, DiskFails, PipeFails, left_by, Stays, Breaks}
use Rattle.boot_run.specs.Lines.{line_deed}
use Rattle.boot_run.specs.declared.line.Line.{Line}

-- the state that lines leave
abbrev pub states : List Files → List Line → List Files
states state [] = state
states state (line ∷ lines) = states (left_by (line_deed (latest_view state) line) state) lines

-- all that they print
abbrev pub printed_by : List Files → List Line → Sent
printed_by state [] = []
printed_by state (line ∷ lines) =
    let deed = line_deed (latest_view state) line in deed.sent ++ printed_by (left_by deed state) lines

-- some line is refused
abbrev pub any_refused : List Files → List Line → Bool
any_refused state [] = false
any_refused state (line ∷ lines) =
    let deed = line_deed (latest_view state) line in is_refusal deed.outcome || any_refused (left_by deed state) lines

-- the views are all this one
abbrev pub AllAre : Files → List Files → Type 0
AllAre view state = (v : Files) → IsIn v state → v ≡ view

-- the run is given up, and no more was done than to recover: boot sees the same whatever a stop leaves
abbrev pub Recovers : List Files → List Files → End → Type 0
Recovers old new NoMemory = AllAre (latest_view old) new
Recovers old new DiskFails = AllAre (latest_view old) new
Recovers old new PipeFails = AllAre (latest_view old) new
Recovers old new Stopped = ⊥
Recovers old new Finished = ⊥

-- it came no further than into this deed, which a recovery may have come before
abbrev pub BreaksBehind : Deed → List Files → List Files → Sent → End → Type 0
BreaksBehind deed old new part end = Breaks deed old new part end ⊎ ((part ≡ []) × Recovers old new end)

-- the run ends here, before these lines: a fault of the disk comes at a line
abbrev pub EndsBefore : List Line → List Files → List Files → Sent → End → Type 0
EndsBefore [] old new part Finished = (part ≡ []) × (new ≡ old)
EndsBefore [] old new part DiskFails = ⊥
EndsBefore [] old new part end = (part ≡ []) × Stays old new end
EndsBefore (line ∷ lines) old new part end = BreaksBehind (line_deed (latest_view old) line) old new part end

-- From a state a run over these lines may print this, end or be stopped so, and leave this state:
-- some lines were done whole, and it came no further than into the next.
pub record Runs (old : List Files) (lines : List Line) (new : List Files) (sent : Sent) (end : End) : Type 0 where
  pub whole : ℕ
  pub within : whole ≤ length lines
  pub part : Sent
  pub printed : sent ≡ printed_by old (take whole lines) ++ part
  pub ends : EndsBefore (drop whole lines) (states old (take whole lines)) new part end
