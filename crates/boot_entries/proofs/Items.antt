-- What the parts of reading an entry come to.
use Rattle.std.proofs.Common.{◌≡◌, List, ℕ, Result, Ok, Err, refl, sym, subst, IsErrAnd}
use Rattle.boot_entries.specs.Items.{GivesItem}
use Rattle.boot_base.specs.Paths.{Path}
use Rattle.menu_order.specs.declared.item.MenuItem.{MenuItem}
use Rattle.pe_reader.specs.Prelude.{Headers, FailsFrom}
use Rattle.pe_reader.specs.declared.fault.FailedCheck.{FailedCheck}
use Rattle.pe_reader.specs.declared.fault.HeadFault.{HeadFault}
use Rattle.pe_reader.specs.declared.fault.HeadFault.TheVariants as heads
use Rattle.boot_entries.specs.Items.{FailsAs, IsUnread, item_fault}
use Rattle.boot_entries.specs.Records.{Unfit, uki_from}
use Rattle.boot_entries.specs.declared.fault.ItemFault.{ItemFault}
use Rattle.boot_entries.specs.declared.fault.ItemFault.TheVariants as faults

pub headless : (path : Path) (file : List ℕ) (read : Result Headers FailedCheck) (fault : HeadFault) → FailsFrom fault read → FailsAs (item_fault fault) (uki_from path file read)
unfolding uki_from
headless path file read heads.Memory e = tt
headless path file read heads.Disk e = tt
headless path file read (heads.NotPe reason offset) e = rw e refl

pub unread : (fault : ItemFault) (entry : Result MenuItem Unfit) → IsUnread fault → FailsAs fault entry
unread faults.Memory entry h = tt
unread faults.Disk entry h = tt
unread (faults.NotPe reason offset) entry h = absurd h
unread (faults.NotUki missing) entry h = absurd h

-- a `?` at a fault of reading headers answers it
pub headless_answer : (path : Path) (file : List ℕ) (read : Result Headers FailedCheck) (fault : HeadFault) (result : Result MenuItem ItemFault)
    → FailsFrom fault read
    → IsErrAnd result (λ answered. answered ≡ item_fault fault)
    → GivesItem result (uki_from path file read)
headless_answer path file read fault (Ok item) h is = absurd is
headless_answer path file read fault (Err answered) h is = subst (λ f. FailsAs f (uki_from path file read)) (sym is) (headless path file read fault h)
