-- Locks of open files: what the answer to one means, and when none is needed.
use Rattle.std.specs.Prelude.{ℤ, pos, negsuc, ◌==◌, Bool, true, false, ◌||◌, Option, Some, None, Result, Ok, Err, if◌then◌else◌}
use Rattle.std.specs.IoError.{error_kind, raw_os_error}
use Rattle.std.specs.declared.io.Error.{Error}
use Rattle.std.specs.declared.io.ErrorKind.{ErrorKind}
use Rattle.std.specs.declared.io.ErrorKind.TheVariants.{InvalidInput, Unsupported}
use Rattle.std.specs.declared.fs.TryLockError.{TryLockError}
use Rattle.std.specs.declared.fs.TryLockError.TheVariants.{Error as Failed, WouldBlock as Held}
use Rattle.folder_calls.specs.declared.calls.Hold.{Hold}
use Rattle.folder_calls.specs.declared.calls.Hold.TheVariants.{Shared, Alone}
use Rattle.folder_calls.specs.declared.calls.LockFault.{LockFault}
use Rattle.folder_calls.specs.declared.calls.LockFault.TheVariants.{Taken, KeepsNone, Disk}

-- a file system doesn't lock
abbrev pub says_no_locks : ErrorKind → Bool
says_no_locks Unsupported = true
says_no_locks InvalidInput = true
says_no_locks _ = false

-- the number EBADF: a network's file system locks no file that isn't open for writing (flock(2), "NFS details")
abbrev pub is_bad_descriptor : Option ℤ → Bool
is_bad_descriptor (Some (pos code)) = code == 9
is_bad_descriptor (Some (negsuc code)) = false
is_bad_descriptor None = false

-- a failed lock is that of a file system that keeps none
abbrev pub keeps_no_locks : Error → Bool
keeps_no_locks error = says_no_locks (error_kind error) || is_bad_descriptor (raw_os_error error)

-- why a lock has failed
abbrev pub lock_fault : Error → LockFault (Unit {0})
lock_fault error = if keeps_no_locks error then KeepsNone error tt else Disk error

-- what the answer to a lock means
abbrev pub lock_answer : Result (Unit {0}) TryLockError → Result (Unit {0}) (LockFault (Unit {0}))
lock_answer (Ok locked) = Ok locked
lock_answer (Err Held) = Err Taken
lock_answer (Err (Failed error)) = Err (lock_fault error)

-- what a lock stands for on a file system that keeps none
abbrev pub IfKeepsNone : {L : Type 0} → LockFault L → (L → Type 0) → Type 0
IfKeepsNone Taken holds = Unit {0}
IfKeepsNone (KeepsNone error lock) holds = holds lock
IfKeepsNone (Disk error) holds = Unit {0}

-- the answer to a lock, and whether its file system has kept it: nobody is held up on one that keeps none
abbrev pub kept_lock : {L : Type 0} → Result L (LockFault L) → Result (L × Bool) (LockFault L)
kept_lock (Ok lock) = Ok (lock, true)
kept_lock (Err Taken) = Err Taken
kept_lock (Err (KeepsNone error lock)) = Ok (lock, false)
kept_lock (Err (Disk error)) = Err (Disk error)

-- what is held in the one way needs no lock to be held in the other
abbrev pub is_enough : Hold → Hold → Bool
is_enough Alone hold = true
is_enough Shared Shared = true
is_enough Shared Alone = false
