-- What the machine on a real folder tells: its counts, and nothing of what it holds.
use Rattle.std.specs.Prelude.{◌≡◌, Bool, true, false, [], Result, MatchResult}
use Rattle.std.specs.FinMap as map
use Rattle.std.specs.FinSet as set
use Rattle.std.specs.declared.io.ErrorKind.{ErrorKind}
use Rattle.std.specs.declared.io.ErrorKind.TheVariants.{WouldBlock}
use Rattle.boot_machine.specs.Counts.{Counts, DiskFailsOnce, PipeFailsOnce}
use Rattle.boot_machine.specs.Disk.{State}
use Rattle.boot_machine.specs.declared.fault.ReadFault.{ReadFault}
use Rattle.boot_machine.specs.declared.fault.ReadFault.TheVariants.{Memory, Disk}
use Rattle.folder_machine.specs.declared.faults.Faults.{Faults}

-- the counts of faults, as the clauses of a machine speak of them
abbrev pub counts_of : Faults → Counts
counts_of faults = record { disk_faults = faults.disk; pipe_faults = faults.pipe }

-- a failed call has raised its own count by one and the other not at all, and another answer leaves both
abbrev pub CountsDiskOnce : {T E : Type 0} → Result T E → Counts → Counts → Type 0
CountsDiskOnce result old new = MatchResult result (λ _. new ≡ old) (λ _. DiskFailsOnce old new)

-- a failed call of a pipe has raised the pipes' count by one and the other not at all, and another answer leaves both
abbrev pub CountsPipeOnce : {T E : Type 0} → Result T E → Counts → Counts → Type 0
CountsPipeOnce result old new = MatchResult result (λ _. new ≡ old) (λ _. PipeFailsOnce old new)

-- a failure to list names: of the disk, which is counted once, or of memory, which leaves the counts
abbrev pub names_fault_once : ReadFault → Counts → Counts → Type 0
names_fault_once Memory old new = new ≡ old
names_fault_once Disk old new = DiskFailsOnce old new

-- the counts after a call that lists names
abbrev pub CountsNamesOnce : {T : Type 0} → Result T ReadFault → Counts → Counts → Type 0
CountsNamesOnce result old new = MatchResult result (λ _. new ≡ old) (λ fault. names_fault_once fault old new)

-- A fault has its cause, and a failed call has raised its own count by one and the other not at all. Each call that may
-- fail says this.
pub record CountsCall (causes once : Counts → Counts → Type 0) (old new : Faults) : Type 0 where
  pub counted : causes (counts_of old) (counts_of new)
  pub apart : once (counts_of old) (counts_of new)

-- the state that no clause speaks of
abbrev pub no_state : State
no_state = record { files = map.empty; earlier = []; soft = set.empty; printed = []; input = [] }

-- a call has failed since another run is in the way
abbrev pub says_other_run : ErrorKind → Bool
says_other_run WouldBlock = true
says_other_run _ = false
