-- What stands on a disk, and which looks of a run it agrees with.
use Rattle.std.specs.Prelude.{◌≡◌, ◌≤◌, ℕ, List, All, Option, Result, Ok, Err, IfSome}
use Rattle.std.specs.FinMap as map
use Rattle.run_looks.specs.Names.{NameSet, lasting}
use Rattle.run_looks.specs.Looks.{FileLooks, Listings}
use Rattle.run_looks.specs.declared.identity.Identity.{Identity}
use Rattle.run_looks.specs.declared.disk.CheckFault.{CheckFault}
use Rattle.run_looks.specs.declared.disk.CheckFault.TheVariants.{Changed, Disk, Memory}
use Rattle.run_looks.specs.declared.looks.RunLooks.{RunLooks}

-- a disk by what stands on it
pub record Standing : Type 0 where
  -- the regular file at a path, if one is there
  pub files : List ℕ → Option Identity
  -- the names in a folder
  pub names : List ℕ → NameSet

-- what was found first at a path stands there, if that look isn't forgotten
abbrev pub FileStands : Standing → FileLooks → List ℕ → Type 0
FileStands disk looks path = IfSome (map.get looks path) (λ look. disk.files path ≡ look.found)

-- The names that a folder had first are those that it has, without temporary files, if it was listed after so many
-- replies and that isn't forgotten.
abbrev pub ListingStands : Standing → Listings → ℕ → List ℕ → Type 0
ListingStands disk listings reply folder =
    IfSome (map.get listings folder) (λ listing. reply ≤ listing.reply → lasting (disk.names folder) ≡ listing.names)

-- all that was looked at since the last reply stands
pub record RecentStand (disk : Standing) (looks : RunLooks) : Type 0 where
  pub files : All (FileStands disk looks.files) looks.recent
  pub listings : (folder : List ℕ) → ListingStands disk looks.listings looks.reply folder

-- all that was looked at stands
pub record AllStand (disk : Standing) (looks : RunLooks) : Type 0 where
  pub files : (path : List ℕ) → FileStands disk looks.files path
  pub listings : (folder : List ℕ) → ListingStands disk looks.listings 0 folder

-- what a fault of a check says of a fact: a change that it isn't one, and a failure nothing
abbrev pub FaultSays : {F : Type 0} → Type 0 → CheckFault F → Type 0
FaultSays fact (Changed _) = ¬ fact
FaultSays fact (Disk _) = Unit {0}
FaultSays fact Memory = Unit {0}

-- what the answer of a check says of a fact: Ok that it is one, and a fault as above
abbrev pub CheckSays : {T F : Type 0} → Type 0 → Result T (CheckFault F) → Type 0
CheckSays fact (Ok _) = fact
CheckSays fact (Err fault) = FaultSays fact fault
