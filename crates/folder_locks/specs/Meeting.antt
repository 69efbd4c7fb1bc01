-- Which error an answer is, if another run is met.
use Rattle.std.specs.Prelude.{◌≡◌, false, Option, Some, None, Result, MatchResult, if◌then◌else◌}
use Rattle.std.specs.Option.{option_map_or}
use Rattle.std.specs.IoError.{error_kind}
use Rattle.std.specs.declared.io.Error.{Error}
use Rattle.std.specs.declared.io.ErrorKind.{ErrorKind}
use Rattle.std.specs.declared.io.ErrorKind.TheVariants.{WouldBlock}
use Rattle.folder_calls.specs.Tree.{same_inode}
use Rattle.folder_calls.specs.declared.calls.LockFault.{LockFault}
use Rattle.folder_calls.specs.declared.calls.LockFault.TheVariants.{Disk, KeepsNone, Taken}
use Rattle.folder_calls.specs.declared.found.Found.{Found}

-- an answer is Ok if there is no such fault, and else an error of that kind
abbrev pub AnswersWith : {T : Type 0} → Option ErrorKind → Result T Error → Type 0
AnswersWith fault result = MatchResult result (λ _. fault ≡ None) (λ error. fault ≡ Some (error_kind error))

-- what stands at a path isn't what is held there, or nothing does
abbrev pub changed_fault : Found → Option Found → Option ErrorKind
changed_fault held found = if option_map_or (same_inode held) found false then None else Some WouldBlock

-- the error of a lock that isn't taken: the system's own, unless another run has it
abbrev pub IsLockError : {L : Type 0} → LockFault L → Error → Type 0
IsLockError Taken error = error_kind error ≡ WouldBlock
IsLockError (KeepsNone cause lock) error = error ≡ cause
IsLockError (Disk cause) error = error ≡ cause
