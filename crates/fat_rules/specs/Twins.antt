-- Which two names of a folder may be those of one file after a rename that was cut.
use Rattle.std.specs.Prelude.{ℕ, ◌≡◌, ◌<◌, ◌-◌, Bool, true, false, ◌&&◌, ◌||◌, bytes_eq, List, ◌++◌, length, map, take, drop, All, Option, Some, None}
use Rattle.std.specs.Char.{to_ascii_lowercase}
use Rattle.std.specs.List.{list_any}
use Rattle.boot_base.specs.Paths.{temp_end}
use Rattle.fat_rules.specs.Aliases.{is_alias}
use Rattle.fat_rules.specs.Entries.{EntryParts, entry_parts, is_one_entry, same_suffix}
use Rattle.fat_rules.specs.Sharing.{may_share}
use Rattle.fat_rules.specs.Slots.{Slot, Shares, slot_facts}

-- the temporary name is the name and `.tmp` behind it
abbrev pub is_temp_of : List ℕ → List ℕ → Bool
is_temp_of temp name =
    bytes_eq (take (length temp - length temp_end) temp) name && bytes_eq (drop (length temp - length temp_end) temp) temp_end

-- two names are the same but for the case of their ASCII letters
abbrev pub same_letters : List ℕ → List ℕ → Bool
same_letters one other = bytes_eq (map to_ascii_lowercase one) (map to_ascii_lowercase other)

-- one base in letters of either case, which FAT takes for one, and one suffix
abbrev pub same_in_any_case : Option EntryParts → Option EntryParts → Bool
same_in_any_case (Some one) (Some other) = same_letters one.0 other.0 && same_suffix one.1 other.1
same_in_any_case (Some one) None = false
same_in_any_case None other = false

-- The names that a rename of this program can leave over the same clusters, if it is cut: those of a file and its
-- temporary file, or of one entry; or one is an alias.
abbrev pub may_be_of_one_file : List ℕ → List ℕ → Bool
may_be_of_one_file name other =
    is_alias name || is_alias other || is_temp_of name other || is_temp_of other name
    || same_in_any_case (entry_parts name) (entry_parts other)

-- each rename of this program is seen: of a temporary file to its own name, of an entry to another name of it, and of a
-- name that is shown by its alias
pub record RenamesAreSeen : Type 0 where
  pub temporary : (name : List ℕ) → may_be_of_one_file (name ++ temp_end) name ≡ true
  pub counter : (name other : List ℕ) → is_one_entry name other ≡ true → may_be_of_one_file name other ≡ true
  pub alias : (name other : List ℕ) → is_alias other ≡ true → may_be_of_one_file name other ≡ true

-- a name in a folder, and its entry
pub record Entry : Type 0 where
  pub name : List ℕ
  pub slot : Slot

-- another name that may be of the same file, and may share its clusters
abbrev pub is_twin : Entry → Entry → Bool
is_twin one other = may_be_of_one_file one.name other.name && may_share (slot_facts one.slot) (slot_facts other.slot)

-- Where no names share clusters but those that a rename may leave so, a name with bytes that has no twin shares its
-- clusters with none.
abbrev pub TwinlessSharesNothing : Type 0
TwinlessSharesNothing =
    (one : Entry) (others : List Entry) → 0 < one.slot.length
    → All (λ other. Shares one.slot other.slot → may_be_of_one_file one.name other.name ≡ true) others
    → list_any (is_twin one) others ≡ false → All (λ other. Shares one.slot other.slot → ⊥) others
