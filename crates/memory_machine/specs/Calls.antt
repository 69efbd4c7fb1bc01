-- What each call of a machine in memory says beside its row.
use Rattle.std.specs.Prelude.{◌≡◌, ℕ, List, Result, IfErr}
use Rattle.boot_machine.specs.Counts.{Counts, CountsDisk, CountsPipe, CountsRead, DiskFailsOnce, PipeFailsOnce}
use Rattle.boot_machine.specs.Disk.{State}
use Rattle.boot_machine.specs.Moments.{Elapses}
use Rattle.boot_machine.specs.Taken.{TakesNone}
use Rattle.boot_machine.specs.declared.fault.ReadFault.{ReadFault}
use Rattle.boot_machine.specs.declared.fault.ReadFault.TheVariants.{Memory, Disk}
use Rattle.memory_machine.specs.Memory.{mem_state, mem_time, mem_counts, mem_reads, mem_taken, mem_starved, mem_calls, mem_plan, TellsTheSame, FailsOnly, names_answer, IsNextCall, IsStarved, RecordsCall, AsTold}
use Rattle.memory_machine.specs.declared.memory.MemMachine.{MemMachine}
use Rattle.memory_machine.specs.declared.memory.ReadSeen.{ReadSeen}

-- How a call of some kind fails: what a fault says of the orders, and what the answer and the fault say of the counts.
pub record CallKind (T E : Type 0) : Type 1 where
  pub says : E → MemMachine → MemMachine → Type 0
  pub counts : Result T E → Counts → Counts → Type 0
  pub once : E → Counts → Counts → Type 0

-- a call of the disk
abbrev pub disk_call : {T E : Type 0} → CallKind T E
disk_call = record { says = λ _. FailsOnly; counts = CountsDisk; once = λ _. DiskFailsOnce }

-- a call of a pipe
abbrev pub pipe_call : {T E : Type 0} → CallKind T E
pipe_call = record { says = λ _. FailsOnly; counts = CountsPipe; once = λ _. PipeFailsOnce }

-- a failure to list names is counted once if the disk failed, and not at all if memory was wanting
abbrev pub names_once : ReadFault → Counts → Counts → Type 0
names_once Memory old new = new ≡ old
names_once Disk old new = DiskFailsOnce old new

-- a call that lists names
abbrev pub names_call : {T : Type 0} → CallKind T ReadFault
names_call = record { says = names_answer; counts = CountsRead; once = names_once }

-- the effect of a call that changes nothing
abbrev pub no_effect : State → State
no_effect s = s

-- no read is kept
abbrev pub KeepsNone : List ReadSeen → List ReadSeen → Type 0
KeepsNone old new = new ≡ old

-- What a call says beside its row. `takes` and `keeps` are what it says of its reads; `before` and `after` are its
-- effects if it is to fail before, and if it is to fail after.
pub record MemCall {T E : Type 0} (kind : CallKind T E) (takes : ℕ → ℕ → Type 0)
    (keeps : List ReadSeen → List ReadSeen → Type 0) (before after : State → State) (old new : MemMachine)
    (result : Result T E) : Type 0 where
  pub told : AsTold kind.says old new (before (mem_state old)) (after (mem_state old)) result
  pub moments : Elapses mem_time mem_state old new
  pub counts : kind.counts result (mem_counts old) (mem_counts new)
  pub once : IfErr result (λ fault. kind.once fault (mem_counts old) (mem_counts new))
  pub records : RecordsCall old new
  pub taken : takes (mem_taken old) (mem_taken new)
  pub reads : keeps (mem_reads old) (mem_reads new)

-- A fault is counted once, and nothing else changes.
pub record MemFails (fails_once failed : Counts → Counts → Type 0) (old new : MemMachine) : Type 0 where
  pub same : TellsTheSame old new
  pub starved : mem_starved new ≡ mem_starved old
  pub calls : mem_calls new ≡ mem_calls old
  pub counts : failed (mem_counts old) (mem_counts new)
  pub once : fails_once (mem_counts old) (mem_counts new)

-- A call that is to fail before is recorded: its orders, its counts and its reads stay.
pub record SkipsCall (old new : MemMachine) : Type 0 where
  pub plan : mem_plan new ≡ mem_plan old
  pub calls : mem_calls new ≡ mem_calls old
  pub moments : Elapses mem_time mem_state old new
  pub records : RecordsCall old new
  pub counts : mem_counts new ≡ mem_counts old
  pub reads : KeepsNone (mem_reads old) (mem_reads new)

-- A call that found no memory for its words: its number is used up, and its fault is counted.
pub record StarvesCall (fails_once failed : Counts → Counts → Type 0) (old new : MemMachine) : Type 0 where
  pub state : mem_state new ≡ mem_state old
  pub next : IsNextCall old new
  pub starved : IsStarved old new
  pub moments : Elapses mem_time mem_state old new
  pub counts : failed (mem_counts old) (mem_counts new)
  pub once : fails_once (mem_counts old) (mem_counts new)
  pub records : RecordsCall old new
  pub taken : TakesNone (mem_taken old) (mem_taken new)
  pub reads : KeepsNone (mem_reads old) (mem_reads new)
