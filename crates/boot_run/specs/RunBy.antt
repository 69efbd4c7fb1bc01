-- The clauses of the top call.
use Rattle.std.specs.Prelude.{◌≡◌, ◌⊎◌, true, ℕ, List, ◌++◌, take, Result, Ok, Err}
use Rattle.boot_machine.specs.Disk.{IsRested, State, recovered_view}
use Rattle.boot_machine.specs.Images.{IsImage, IsFirm, IsSettled}
use Rattle.boot_machine.specs.Moments.{Timeline, EachSince}
use Rattle.boot_machine.specs.Rows.{on_channel}
use Rattle.boot_machine.specs.Sent.{Sent, Adds, IsPrefix, recovered_now, recovered_views}
use Rattle.boot_machine.specs.declared.machine.Channel.TheVariants.{Err as ErrChannel}
use Rattle.tool_words.specs.declared.fault.UsageReason.{UsageReason}
use Rattle.boot_run.specs.AskedLines.{usage_line}
use Rattle.boot_run.specs.Endings.{AllTidied, AnswersRefusals, AtEnd, PrintsUsage, UnlessDisk, end_at}
use Rattle.boot_run.specs.Lines.{has_command}
use Rattle.boot_run.specs.RunsTo.{FromSync, IsUnsynced}
use Rattle.boot_run.specs.Step.{Acknowledges, Leaves, Step, StopsIn, join_replies, replies, some_refused, view_after}
use Rattle.boot_run.specs.declared.line.Line.{Line}
use Rattle.boot_run.specs.declared.ended.Ended.{Ended}
use Rattle.boot_run.specs.declared.ended.Ended.TheVariants.{Done, Refused, Usage, Disk, Pipe, Memory}

-- all replies are printed, and boot sees the view after all lines
abbrev pub AllPrinted : State → State → List Line → Type 0
AllPrinted old new lines =
    (new.printed ≡ old.printed ++ join_replies (replies (recovered_now old) lines))
    × (recovered_now new ≡ view_after (recovered_now old) lines)

-- the folders that these lines tidied are clean, and behind a command no rename is left half done
pub record LeavesClean (lines : List Line) (s : State) : Type 0 where
  pub tidied : AllTidied lines s
  pub rested : has_command lines ≡ true → IsRested s

-- it is so behind the lines that were acknowledged
abbrev pub CleanBy : State → State → List Line → Type 0
CleanBy old new lines =
    (k : ℕ) → Adds old.printed new.printed (λ sent. Acknowledges (replies (recovered_now old) lines) sent k)
    → LeavesClean (take k lines) new

-- at every end but a disk fault
abbrev pub CleanBehind : State → State → List Line → Ended → Type 0
CleanBehind old new lines Done = CleanBy old new lines
CleanBehind old new lines Refused = CleanBy old new lines
CleanBehind old new lines Usage = Unit {0}
CleanBehind old new lines Disk = Unit {0}
CleanBehind old new lines Pipe = CleanBy old new lines
CleanBehind old new lines Memory = CleanBy old new lines

-- Each moment of a run on a machine that is only firm: no names were synced by then, and a stop leaves what it would
-- have left at the start, or from their sync on the machine is as good as a settled one.
abbrev pub LeavesFromSync : {M : Type 0} → Timeline M → (M → State) → M → M → List Line → Type 0
LeavesFromSync time state old new lines =
    EachSince time old new (IsUnsynced (state old) lines)
    ⊎ FromSync time state old new (IsUnsynced (state old) lines)
    (λ image printed. Adds (state old).printed printed
    (Leaves (recovered_now (state old)) lines (recovered_view image)))

-- A run over these lines on a firm machine: a step of the reference at its end, and at a stop at every moment.
pub record RunsLines {M : Type 0} (time : Timeline M) (state : M → State)
    (old new : M) (lines : List Line) (ended : Ended) : Type 0 where
  pub firm : IsFirm (state new)
  -- a settled machine stays settled, but where the disk failed
  pub settled : UnlessDisk ended (IsSettled (state old) → IsSettled (state new))
  pub refusals : AnswersRefusals (some_refused (recovered_now (state old)) lines) ended
  pub finished : AtEnd ended (AllPrinted (state old) (state new) lines)
  pub at_end : Adds (state old).printed (state new).printed
      (λ sent. Step (recovered_views (state old)) lines (recovered_views (state new)) sent (end_at ended))
  pub at_each_moment : EachSince time old new
      (λ image printed. Adds (state old).printed printed
      (StopsIn (recovered_views (state old)) lines (recovered_view image)))
  pub from_sync : LeavesFromSync time state old new lines

-- A run with words that are no command: nothing changes but what is printed of the usage line.
pub record RunsUsage {M : Type 0} (time : Timeline M) (state : M → State)
    (old new : M) (line : Sent) (ended : Ended) : Type 0 where
  pub unchanged : state new ≡ record (state old) { printed = (state new).printed }
  pub at_end : Adds (state old).printed (state new).printed (PrintsUsage ended line)
  pub at_each_moment : EachSince time old new
      (λ image printed. IsImage (state old) image × Adds (state old).printed printed (λ part. IsPrefix part line))

-- a run by what its words ask for
abbrev pub RunsBy : {M : Type 0} → Timeline M → (M → State) → Result (List Line) UsageReason → M → M → Ended → Type 0
RunsBy time state (Ok lines) old new ended = IsFirm (state old) → RunsLines time state old new lines ended
RunsBy time state (Err reason) old new ended =
    RunsUsage time state old new (on_channel ErrChannel (usage_line reason)) ended
