-- A folder of FAT, and what the rules keep there (Microsoft FAT specification, "Directory Structure").
use Rattle.std.specs.Prelude.{ℕ, ◌≡◌, ◌<◌, ◌⊎◌, Bool, true, false, List, [], length, map, All, Some}
use Rattle.std.specs.List.{list_any}
use Rattle.fat_rules.specs.Sharing.{may_share}
use Rattle.fat_rules.specs.Recovery.{removal_of, step_of_none, step_of_one}
use Rattle.fat_rules.specs.declared.facts.Facts.{Facts}
use Rattle.fat_rules.specs.declared.recovery.Removal.TheVariants.{Unlink, RenameOver}
use Rattle.fat_rules.specs.declared.recovery.Step.TheVariants.{Forget, TakeAlias}

-- A name's entry in a folder: the first cluster of its bytes, their count, and the time of their change in units of two
-- seconds (DIR_FstClus, DIR_FileSize, DIR_WrtDate and DIR_WrtTime).
pub record Slot : Type 0 where
  pub start : ℕ
  pub length : ℕ
  pub stamp : ℕ

-- what the system tells of it
abbrev pub slot_facts : Slot → Facts
slot_facts slot = record { length = slot.length; time = Some slot.stamp; links = 1 }

-- Two names over the same clusters, as a rename leaves them that was cut: the driver writes one file's first cluster,
-- length and time into both.
pub record Shares (one other : Slot) : Type 0 where
  pub start : one.start ≡ other.start
  pub length : one.length ≡ other.length
  pub stamp : one.stamp ≡ other.stamp

-- a check of the file system has taken the bytes of a name away, and left its time
pub record IsEmptied (file slot : Slot) : Type 0 where
  pub length : slot.length ≡ 0
  pub stamp : slot.stamp ≡ file.stamp

-- a name of the file: with its bytes, or emptied
abbrev pub IsNameOf : Slot → Slot → Type 0
IsNameOf file slot = (slot ≡ file) ⊎ IsEmptied file slot

-- the rule finds another name that may share the clusters of this one
abbrev pub has_twin : Slot → List Slot → Bool
has_twin slot others = list_any (may_share (slot_facts slot)) (map slot_facts others)

-- none of the names shares the clusters of this one
abbrev pub SharesWithNone : Slot → List Slot → Type 0
SharesWithNone slot others = All (λ other. Shares slot other → ⊥) others

-- A name with bytes of which the rule finds no twin shares its clusters with none, whatever stands in the folder: so it
-- may be unlinked.
abbrev pub FreesNothingShared : Type 0
FreesNothingShared =
    (slot : Slot) (others : List Slot) → 0 < slot.length → has_twin slot others ≡ false → SharesWithNone slot others

-- Of two names of a file with bytes that are no twins, one that is unlinked has none, and one that is renamed over the
-- other has them, and the other has none.
abbrev pub KeepsTheBytes : Type 0
KeepsTheBytes =
    (file old new : Slot)
    → 0 < file.length → IsNameOf file old → IsNameOf file new → may_share (slot_facts old) (slot_facts new) ≡ false
    → (removal_of (Some (slot_facts old)) (Some (slot_facts new)) ≡ Unlink → IsEmptied file old)
    × (removal_of (Some (slot_facts old)) (Some (slot_facts new)) ≡ RenameOver → (old ≡ file) × IsEmptied file new)

-- A rename of which one name is left is forgotten only if that has the bytes. If it is emptied, an alias that has bytes
-- is put in its place.
abbrev pub KeepsTheBytesOfOne : Type 0
KeepsTheBytesOfOne =
    (file found : Slot) (aliases : List Slot) → 0 < file.length → IsNameOf file found
    → (step_of_one (slot_facts found) (map slot_facts aliases) ≡ Forget → found ≡ file)
    × ((place : ℕ) → step_of_one (slot_facts found) (map slot_facts aliases) ≡ TakeAlias place → IsEmptied file found)

-- A rename of which no name is left is forgotten only if its folder is there, not on FAT, and no alias has the bytes.
abbrev pub KeepsTheLastName : Type 0
KeepsTheLastName =
    (has_folder is_fat : Bool) (aliases : List Slot)
    → step_of_none has_folder is_fat (length aliases) ≡ Forget
    → (has_folder ≡ true) × ((is_fat ≡ false) × (aliases ≡ []))

-- No second check is asked for: after one, two names don't have the bytes both, and no further one has them beside a name.
abbrev pub ChecksOnce : Type 0
ChecksOnce =
    (file slot : Slot) (others : List Slot)
    → IsEmptied file slot ⊎ All (IsEmptied file) others → has_twin slot others ≡ false
