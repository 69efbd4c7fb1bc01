-- What a reading function returned, unless memory ran out, and what a `Pe` was read from.
use Rattle.std.specs.Prelude.{◌≡◌, ℕ, ◌+◌, ◌*◌, List, ◌++◌, ◌≤◌, length, Result, Ok, Err, MatchResult}
use Rattle.boot_base.specs.Limits.{file_limit}
use Rattle.boot_machine.specs.Counts.{Counts, DiskFailed}
use Rattle.pe_reader.specs.declared.fault.FailedCheck.{FailedCheck}
use Rattle.pe_reader.specs.declared.fault.PeFault.{PeFault}
use Rattle.pe_reader.specs.declared.fault.PeFault.TheVariants.{Memory, NotPe}
use Rattle.pe_reader.specs.declared.fault.HeadFault.{HeadFault}
use Rattle.pe_reader.specs.declared.fault.HeadFault.TheVariants as heads
use Rattle.pe_reader.specs.declared.head.Head.{Head}
use Rattle.pe_reader.specs.declared.pe.Pe.{Pe}
use Rattle.pe_reader.specs.Grammar.{Headers, head_of, pe_of, section_limit}

-- the most bytes that the headers of a file have: its first 64, the COFF header, an optional header and
-- the headers of all sections
abbrev pub head_limit : ℕ
head_limit = 64 + 24 + 65535 + section_limit * 40

-- the fault is the first check that fails, or want of memory
abbrev pub Fails : {Y : Type 0} → PeFault → Result Y FailedCheck → Type 0
Fails Memory read = Unit {0}
Fails (NotPe reason offset) read = read ≡ Err (record { reason = reason; offset = offset })

-- what was returned, seen by view, is what reading gives, unless memory ran out
abbrev pub ReturnsRead : {X Y : Type 0} → (X → Y) → Result X PeFault → Result Y FailedCheck → Type 0
ReturnsRead view (Ok x) read = read ≡ Ok (view x)
ReturnsRead view (Err e) read = Fails e read

-- a fault of reading bytes, as that of reading a machine's file
abbrev pub head_fault : PeFault → HeadFault
head_fault Memory = heads.Memory
head_fault (NotPe reason offset) = heads.NotPe reason offset

-- the fault is the first check that fails, unless memory ran out or the disk failed
abbrev pub FailsFrom : {Y : Type 0} → HeadFault → Result Y FailedCheck → Type 0
FailsFrom heads.Memory read = Unit {0}
FailsFrom heads.Disk read = Unit {0}
FailsFrom (heads.NotPe reason offset) read = read ≡ Err (record { reason = reason; offset = offset })

-- what was returned, seen by view, is what reading gives, unless memory ran out or the disk failed
abbrev pub GivesFrom : {X Y : Type 0} → (X → Y) → Result X HeadFault → Result Y FailedCheck → Type 0
GivesFrom view (Ok x) read = read ≡ Ok (view x)
GivesFrom view (Err e) read = FailsFrom e read

-- a fault of the disk has its cause, and every other answer leaves the counts
abbrev pub head_counts : HeadFault → Counts → Counts → Type 0
head_counts heads.Memory old new = new ≡ old
head_counts (heads.NotPe reason offset) old new = new ≡ old
head_counts heads.Disk old new = DiskFailed old new

-- the counts after the reading of headers: a fault of the disk has its cause, and every other answer leaves them
abbrev pub CountsHead : {X : Type 0} → Result X HeadFault → Counts → Counts → Type 0
CountsHead result old new = MatchResult result (λ _. new ≡ old) (λ fault. head_counts fault old new)

-- a stage of the reading gave it from so many bytes
pub record FromBytes {X : Type 0} (count : ℕ) (stage : List ℕ → Result X FailedCheck) (given : X) : Type 0 where
  pub bytes : List ℕ
  pub length_is : length bytes ≡ count
  pub reads : stage bytes ≡ Ok given

-- There are bytes up to the section table such that every file of that size that begins with them has this head.
pub record HeadFrom (head : Head) (size : ℕ) : Type 0 where
  pub before : List ℕ
  pub length_is : length before ≡ head.table_place
  pub reads : (after : List ℕ) → length (before ++ after) ≡ size → head_of (before ++ after) ≡ Ok head

-- a `Pe` without where it lies in memory
abbrev pub headers_of : Pe → Headers
headers_of pe = record { head = pe.head; sections = pe.sections.items }

-- a `Pe` was read from a file of that size, which is at most the limit of a file
pub record ReadFrom (pe : Pe) (size : ℕ) : Type 0 where
  pub small : size ≤ file_limit
  pub bytes : List ℕ
  pub length_is : length bytes ≡ size
  pub reads : pe_of bytes ≡ Ok (headers_of pe)
