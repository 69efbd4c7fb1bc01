-- The rules of a recovery after a rename that was cut, over what the system tells of the names that are there.
use Rattle.std.specs.Prelude.{ℕ, ◌==◌, Bool, false, not, ◌&&◌, ◌||◌, nat_lt, List, Option, Some, None, is_none, is_some, position, if◌then◌else◌}
use Rattle.fat_rules.specs.declared.facts.Facts.{Facts}
use Rattle.fat_rules.specs.declared.recovery.Removal.{Removal}
use Rattle.fat_rules.specs.declared.recovery.Removal.TheVariants.{Unlink, RenameOver}
use Rattle.fat_rules.specs.declared.recovery.Step.{Step}
use Rattle.fat_rules.specs.declared.recovery.Step.TheVariants.{Forget, TakeAlias, AskForBytes, AskForCheck, AskForFolder, AskForName}
use Rattle.fat_rules.specs.Sharing.{same_time}

-- a file is there, and has bytes
abbrev pub has_length : Option Facts → Bool
has_length (Some found) = nat_lt 0 found.length
has_length None = false

-- a file that may stand on FAT is there, and has none: elsewhere no check takes bytes away
abbrev pub is_emptied : Option Facts → Bool
is_emptied (Some found) = found.length == 0 && is_some found.time
is_emptied None = false

-- the old name is renamed over a new one that has lost its bytes, and else unlinked
abbrev pub removal_of : Option Facts → Option Facts → Removal
removal_of old new = if has_length old && is_emptied new then RenameOver else Unlink

-- the alias has bytes, and the time of the file
abbrev pub has_bytes_of : Facts → Facts → Bool
has_bytes_of found alias = nat_lt 0 alias.length && same_time alias.time found.time

-- the alias at that place, or none
abbrev pub step_by_place : Option ℕ → Step
step_by_place None = AskForBytes
step_by_place (Some place) = TakeAlias place

-- a name with bytes stays, or one that isn't on FAT; else an alias has the bytes
abbrev pub step_of_one : Facts → List Facts → Step
step_of_one found aliases =
    if nat_lt 0 found.length || is_none found.time then Forget
    else step_by_place (position (has_bytes_of found) aliases)

-- Without a name the one alias that has bytes is the file's. If there is none on FAT, a check may have put the bytes into
-- a file of its own. Nothing is known of a folder that isn't there.
abbrev pub step_of_none : Bool → Bool → ℕ → Step
step_of_none has_folder is_fat alias_count =
    if not has_folder then AskForFolder
    else if alias_count == 0 then (if is_fat then AskForCheck else Forget)
    else if alias_count == 1 then TakeAlias 0
    else AskForName
