-- The clauses of a run over a list of lines.
use Rattle.std.specs.Prelude.{◌≡◌, ◌≢◌, ◌⊎◌, Bool, List, [], ◌∷◌, ◌++◌, Result, MatchResult, IfOk, IfErr, OnOk, OnErr}
use Rattle.boot_machine.specs.Disk.{Files, HasOneCandidate, State, recovered_view}
use Rattle.boot_machine.specs.Images.{IsImage, IsFirm}
use Rattle.boot_machine.specs.Moments.{Timeline, EachSince}
use Rattle.boot_machine.specs.Reading.{IsIdleMoment, OnlyReads}
use Rattle.boot_machine.specs.Sent.{Sent, Adds, PrintsPart, latest_view, recovered_now, recovered_views}
use Rattle.command_plans.specs.Deeds.{Breaks, Deed, Stopped}
use Rattle.command_plans.specs.Performs.{DoesDeed, end_of}
use Rattle.command_plans.specs.declared.outcome.Outcome.{Outcome}
use Rattle.command_plans.specs.declared.outcome.RunError.{RunError}
use Rattle.command_plans.specs.declared.outcome.RunError.TheVariants as run_errors
use Rattle.boot_run.specs.History.{BreaksBehind, Runs, states, printed_by, any_refused}
use Rattle.boot_run.specs.Lines.{Prints}
use Rattle.boot_run.specs.Step.{PrintsUnread}
use Rattle.boot_run.specs.declared.line.Line.{Line}

-- what an error leaves of it: it is so after a pipe's failure if something was printed
abbrev pub at_part : RunError → State → State → Type 0 → Type 0
at_part run_errors.Disk old new P = Unit {0}
at_part run_errors.Pipe old new P = new.printed ≢ old.printed → P
at_part run_errors.Memory old new P = Unit {0}

-- it is so after Ok, and after a pipe's failure if something was printed
abbrev pub WherePrinted : {T : Type 0} → Result T RunError → State → State → Type 0 → Type 0
WherePrinted result old new P = MatchResult result (λ _. P) (λ error. at_part error old new P)

-- At some time the names were all synced. Each moment up to it has one property, and each from it on the other.
pub record FromSync {M : Type 0} (time : Timeline M) (state : M → State)
    (old new : M)
    (Before After : Files → Sent → Type 0) : Type 0 where
  pub synced : M
  pub one : HasOneCandidate (state synced)
  pub before : EachSince time old synced Before
  pub after : EachSince time synced new After

-- What is printed of this is all that changes, and at each moment it was so.
pub record OnlyPrints {M : Type 0} (time : Timeline M) (state : M → State) (old new : M) (text : Sent) : Type 0 where
  pub same : Prints (state old) (state new)
  pub moments : EachSince time old new (PrintsPart (state old) text)

-- One line on a firm machine, with a recovery before it or none: as a deed is performed, but that at a fault or want of
-- memory the recovery may be all that was done.
pub record PerformsBehind {M : Type 0} (time : Timeline M) (state : M → State)
    (old new : M) (deed : Deed)
    (result : Result Outcome RunError) : Type 0 where
  pub firm : IsFirm (state new)
  pub ok : IfOk result (DoesDeed deed (state old) (state new))
  pub err : IfErr result (λ error. Adds (state old).printed (state new).printed
      (λ part. BreaksBehind deed (recovered_views (state old)) (recovered_views (state new)) part (end_of error)))
  pub moments : EachSince time old new (λ image sent. Adds (state old).printed sent
      (λ part. Breaks deed (recovered_views (state old)) (recovered_view image ∷ []) part Stopped))

-- The names are synced before the deed: until then a stop leaves what it would have left, and from then on the deed
-- began with the files as they were.
abbrev pub SyncsBefore : {M : Type 0} → Timeline M → (M → State) → M → M → Deed → Type 0
SyncsBefore time state old new deed =
    FromSync time state old new (IsIdleMoment (state old)) (λ image sent. Adds (state old).printed sent
    (λ part. Breaks deed (latest_view (recovered_views (state old)) ∷ []) (recovered_view image ∷ []) part Stopped))

-- The names are synced before the deed of the first command of a run. After Err it may instead have been given up, with
-- nothing done but reading.
pub record SyncsFirst {M : Type 0} (time : Timeline M) (state : M → State)
    (old new : M) (deed : Deed)
    (result : Result Outcome RunError) : Type 0 where
  pub ok : OnOk result (SyncsBefore time state old new deed)
  pub err : OnErr result (OnlyReads time state old new ⊎ SyncsBefore time state old new deed)

-- A stop leaves what it would have left at the start, and no more is printed than replies to leading lines that are no
-- command.
pub record IsUnsynced (s : State) (lines : List Line) (image : Files) (printed : Sent) : Type 0 where
  pub stands : IsImage s image
  pub part : Adds s.printed printed (PrintsUnread (recovered_now s) lines)

-- From here these lines were all done, all their replies were printed, and some was a refusal or none.
pub record AllDone (s now : State) (lines : List Line) (refused : Bool) : Type 0 where
  pub state : recovered_views now ≡ states (recovered_views s) lines
  pub printed : now.printed ≡ s.printed ++ printed_by (recovered_views s) lines
  pub answer : refused ≡ any_refused (recovered_views s) lines

-- Over these lines, from old to new, at every moment.
pub record RunsTo {M : Type 0} (time : Timeline M) (state : M → State)
    (old new : M) (lines : List Line)
    (result : Result Bool RunError) : Type 0 where
  pub firm : IsFirm (state new)
  pub ok : IfOk result (AllDone (state old) (state new) lines)
  pub err : IfErr result (λ error. Adds (state old).printed (state new).printed
      (λ sent. Runs (recovered_views (state old)) lines (recovered_views (state new)) sent (end_of error)))
  pub moments : EachSince time old new (λ image printed. Adds (state old).printed printed
      (λ sent. Runs (recovered_views (state old)) lines (recovered_view image ∷ []) sent Stopped))

-- a stop of a run that began with the files as they were
abbrev pub RunsAfresh : State → List Line → Files → Sent → Type 0
RunsAfresh s lines image printed =
    Adds s.printed printed (λ sent. Runs (latest_view (recovered_views s) ∷ []) lines
    (recovered_view image ∷ []) sent Stopped)

-- no names were synced, or from their sync on the run is one that began with the files as they were
abbrev pub IsSyncedBy : {M : Type 0} → Timeline M → (M → State) → M → M → List Line → Type 0
IsSyncedBy time state old new lines =
    EachSince time old new (IsUnsynced (state old) lines)
    ⊎ FromSync time state old new (IsUnsynced (state old) lines) (RunsAfresh (state old) lines)
