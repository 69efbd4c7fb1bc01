-- What the steps of an installation do to what boot sees.
use Rattle.std.specs.Prelude.{if◌then◌else◌, None, ◌≡◌, ◌≢◌, ◌⊎◌, ◌&&◌, not, Bool, true, false, IsTrue, List, ◌++◌, Some, Result, MatchResult}
use Rattle.std.specs.FinMap as map
use Rattle.boot_base.specs.Paths.{Path, intent, intent_bytes, is_temp, temp_end}
use Rattle.boot_machine.specs.Disk.{Files, State, HasOneCandidate, IsRested, has, intent_names, is_same_path, recovered_view}
use Rattle.boot_machine.specs.Images.{IsImage, IsFirm}
use Rattle.boot_machine.specs.Moments.{Timeline, EachSince}
use Rattle.boot_machine.specs.Listed.{is_listed}
use Rattle.boot_machine.specs.Rows.{contents, move_in}
use Rattle.boot_machine.specs.Counts.{Counts, DiskFailed}
use Rattle.install_steps.specs.declared.faults.MoveFault.{MoveFault}
use Rattle.install_steps.specs.declared.faults.MoveFault.TheVariants.{Disk as MDisk, NotFound as MNotFound, TargetExists}
use Rattle.install_steps.specs.declared.faults.StepFault.{StepFault}
use Rattle.install_steps.specs.declared.faults.StepFault.TheVariants.{Disk as SDisk, NotFound as SNotFound}
use Rattle.install_steps.specs.declared.moves.Intent.{Intent}
use Rattle.boot_machine.specs.declared.machine.Printed.{Printed}

-- boot sees what it saw before the step, or what it is to see, and nothing more is printed
abbrev pub Sees : State → Files → Files → List Printed → Type 0
Sees old next m o = ((recovered_view m ≡ recovered_view old.files) ⊎ (recovered_view m ≡ next)) × (o ≡ old.printed)

-- what a step doesn't touch
pub record Keeps (old new : State) : Type 0 where
  pub printed : new.printed ≡ old.printed
  pub input : new.input ≡ old.input

-- the step is done, and no stop undoes it
pub record IsDone (new : State) (next : Files) : Type 0 where
  pub one : HasOneCandidate new
  pub firm : IsFirm new
  pub images : (m : Files) → IsImage new m → recovered_view m ≡ next
  pub files : recovered_view new.files ≡ next

-- Each moment of a step and what it leaves, whatever its answer.
pub record StepsTo {D : Type 0} (time : Timeline D) (state : D → State) (next : Files) (old new : D) : Type 0 where
  pub moments : EachSince time old new (Sees (state old) next)
  pub firm : IsFirm (state new)
  pub files : (recovered_view (state new).files ≡ recovered_view (state old).files)
      ⊎ (recovered_view (state new).files ≡ next)

-- the files with the bytes of the file at `from` at `to` too, or as they are where no file is at `from`
abbrev pub after_copy : Path → Path → Files → Files
after_copy from to files = if has files from then map.insert files to (contents files from) else files

-- the files with the one at `from` at `to` alone, or as they are where none is at `from` or one is at `to`
abbrev pub after_move : Path → Path → Files → Files
after_move from to files = if has files from && not (has files to) then move_in from to files else files

-- no moment since old has anything printed that wasn't printed then
abbrev pub PrintsNothing : {D : Type 0} → Timeline D → (D → State) → D → D → Type 0
PrintsNothing time state old new = EachSince time old new (λ m o. o ≡ (state old).printed)

-- no temporary file is there that wasn't
abbrev pub NoNewTemp : State → State → Type 0
NoNewTemp old new = (q : Path) → is_temp q ≡ true → has new.files q ≡ true → has old.files q ≡ true

-- a step may begin: no change of names is left that a stop undoes, and no intent
pub record CanStep (s : State) : Type 0 where
  pub one : HasOneCandidate s
  pub rested : IsRested s

-- what a step that was made leaves: the next one may begin, and no temporary file is there that wasn't
pub record LeavesReady (old new : State) : Type 0 where
  pub next : CanStep new
  pub temps : NoNewTemp old new

-- after every answer but this fault the next step may begin, and no temporary file is there that wasn't
abbrev pub ReadyUnless : {T E : Type 0} → E → Result T E → State → State → Type 0
ReadyUnless fault result old new =
    MatchResult result (λ _. LeavesReady old new) (λ other. other ≢ fault → LeavesReady old new)

-- each temporary file but these has what it had, and none of the others is new
abbrev pub KeepsTempsBut : List Path → Files → Files → Type 0
KeepsTempsBut own old new =
    (q : Path) → is_temp q ≡ true → is_listed own q ≡ false → map.get new q ≡ map.get old q

-- What a step leaves alone that has these temporary files of its own, whatever its answer: what is printed, at every
-- moment too, the input, and the temporary files of others. The counts of faults are as its answer says.
pub record LeavesAlone {D : Type 0} (tells : Bool) (time : Timeline D) (state : D → State) (counts : D → Counts)
    (causes : Counts → Counts → Type 0) (own : List Path) (old new : D) : Type 0 where
  pub keeps : IsTrue tells → Keeps (state old) (state new)
  pub temps : IsTrue tells → KeepsTempsBut own (state old).files (state new).files
  pub quiet : IsTrue tells → PrintsNothing time state old new
  pub counted : causes (counts old) (counts new)

-- the disk failed, or the counts stay
abbrev pub move_fault : MoveFault → Counts → Counts → Type 0
move_fault MDisk old new = DiskFailed old new
move_fault MNotFound old new = new ≡ old
move_fault TargetExists old new = new ≡ old

-- the counts after a move: a fault of the disk has its cause, and every other answer leaves them
abbrev pub CountsMove : {T : Type 0} → Result T MoveFault → Counts → Counts → Type 0
CountsMove result old new = MatchResult result (λ _. new ≡ old) (λ fault. move_fault fault old new)

-- for another step's fault: the disk failed, or the counts stay
abbrev pub step_fault : StepFault → Counts → Counts → Type 0
step_fault SDisk old new = DiskFailed old new
step_fault SNotFound old new = new ≡ old

-- the counts after another step: a fault of the disk has its cause, and every other answer leaves them
abbrev pub CountsStep : {T : Type 0} → Result T StepFault → Counts → Counts → Type 0
CountsStep result old new = MatchResult result (λ _. new ≡ old) (λ fault. step_fault fault old new)

-- the files with an intent that names these two, and but for temporary ones nothing else
pub record Intends (from to : Path) (old new : Files) : Type 0 where
  pub named : intent_names new ≡ Some (from, to)
  pub alike : (q : Path) → is_temp q ≡ false → is_same_path q intent ≡ false → map.get new q ≡ map.get old q

-- the intent of a move from one path to another: it stands at its own path, is written beside it first, and its bytes
-- name both
abbrev pub IsIntentOf : Path → Path → Intent → Type 0
IsIntentOf from to made =
    (made.path ≡ intent) × (made.bytes ≡ intent_bytes from to) × (made.temp ≡ intent ++ temp_end)

-- the files without these paths, and nothing else
pub record Lacks (paths : List Path) (old new : Files) : Type 0 where
  pub files : (q : Path) → map.get new q ≡ (if is_listed paths q then None else map.get old q)
