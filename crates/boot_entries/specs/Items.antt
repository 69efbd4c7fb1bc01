-- What is answered for a machine's file that may be a type 2 entry.
use Rattle.std.specs.Prelude.{◌≡◌, Result, Ok, Err, MatchResult}
use Rattle.boot_machine.specs.Counts.{Counts, DiskFailed}
use Rattle.menu_order.specs.declared.item.MenuItem.{MenuItem}
use Rattle.pe_reader.specs.declared.fault.HeadFault.{HeadFault}
use Rattle.pe_reader.specs.declared.fault.HeadFault.TheVariants as heads
use Rattle.boot_entries.specs.Records.{Unfit, NotPe, NotUki}
use Rattle.boot_entries.specs.declared.fault.ItemFault.{ItemFault}
use Rattle.boot_entries.specs.declared.fault.ItemFault.TheVariants as faults

-- the fault is the first demand that isn't met, or the memory or the disk failed
abbrev pub FailsAs : ItemFault → Result MenuItem Unfit → Type 0
FailsAs faults.Memory entry = Unit {0}
FailsAs faults.Disk entry = Unit {0}
FailsAs (faults.NotPe reason offset) entry = entry ≡ Err (NotPe (record { reason = reason; offset = offset }))
FailsAs (faults.NotUki missing) entry = entry ≡ Err (NotUki missing)

-- what was returned is the entry, or the first demand that isn't met, unless the memory or the disk failed
abbrev pub GivesItem : Result MenuItem ItemFault → Result MenuItem Unfit → Type 0
GivesItem (Ok item) entry = entry ≡ Ok item
GivesItem (Err fault) entry = FailsAs fault entry

-- a fault of the disk has its cause, and every other answer leaves the counts
abbrev pub item_counts : ItemFault → Counts → Counts → Type 0
item_counts faults.Memory old new = new ≡ old
item_counts faults.Disk old new = DiskFailed old new
item_counts (faults.NotPe reason offset) old new = new ≡ old
item_counts (faults.NotUki missing) old new = new ≡ old

-- the counts after the reading of an item: a fault of the disk has its cause, and every other answer leaves them
abbrev pub CountsItem : {X : Type 0} → Result X ItemFault → Counts → Counts → Type 0
CountsItem result old new = MatchResult result (λ _. new ≡ old) (λ fault. item_counts fault old new)

-- the memory or the disk failed
abbrev pub IsUnread : ItemFault → Type 0
IsUnread faults.Memory = Unit {0}
IsUnread faults.Disk = Unit {0}
IsUnread (faults.NotPe reason offset) = ⊥
IsUnread (faults.NotUki missing) = ⊥

-- what a fault of reading headers comes to
abbrev pub item_fault : HeadFault → ItemFault
item_fault heads.Memory = faults.Memory
item_fault heads.Disk = faults.Disk
item_fault (heads.NotPe reason offset) = faults.NotPe reason offset
