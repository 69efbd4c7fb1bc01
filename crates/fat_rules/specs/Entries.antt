-- Names of one boot entry (UAPI Boot Loader Specification, "Boot counting"), and the moves between them.
use Rattle.std.specs.Prelude.{ℕ, ◌≡◌, ◌-◌, Bool, true, false, ◌&&◌, bytes_eq, List, length, take, Option, Some, None, if◌then◌else◌}
use Rattle.std.specs.List.{list_any}
use Rattle.boot_base.specs.Paths.{Path, beside, file_name_of, is_slash}
use Rattle.menu_order.specs.Counter.{IsCounted, IsUncounted}
use Rattle.menu_order.specs.Renames.{bad_name_of, base_of, booted_name_of, good_name_of}
use Rattle.menu_order.specs.Splits.{has_suffix, split_of, stem_of}
use Rattle.menu_order.specs.declared.counted.Counted.{Counted}
use Rattle.menu_order.specs.declared.counted.Suffix.{Suffix}
use Rattle.menu_order.specs.declared.counted.Suffix.TheVariants.{Conf, Efi}
use Rattle.fat_rules.specs.declared.entry.EntryName.{EntryName}

-- the base of an entry's file name, without its counter, and its suffix
abbrev pub EntryParts : Type 0
EntryParts = List ℕ × Suffix

-- what a value of the code says
abbrev pub parts_of_entry : EntryName → EntryParts
parts_of_entry entry = (entry.base.now, entry.suffix)

-- the parts of a name without a counter, if it ends in that suffix
abbrev pub uncounted_as : Suffix → List ℕ → Option EntryParts
uncounted_as suffix name = if has_suffix suffix name then Some (stem_of suffix name, suffix) else None

-- the first of two, where it is there
abbrev pub first_there : Option EntryParts → Option EntryParts → Option EntryParts
first_there (Some parts) other = Some parts
first_there None other = other

-- the parts of a name that is split so
abbrev pub entry_from : List ℕ → Option Counted → Option EntryParts
entry_from name (Some counted) = Some (base_of name counted, counted.suffix)
entry_from name None = first_there (uncounted_as Efi name) (uncounted_as Conf name)

-- the parts of an entry's file name, where it is one
abbrev pub entry_parts : List ℕ → Option EntryParts
entry_parts name = entry_from name (split_of name)

-- one suffix
abbrev pub same_suffix : Suffix → Suffix → Bool
same_suffix Conf Conf = true
same_suffix Efi Efi = true
same_suffix Conf Efi = false
same_suffix Efi Conf = false

-- one base and one suffix
abbrev pub same_entry : Option EntryParts → Option EntryParts → Bool
same_entry (Some one) (Some other) = bytes_eq one.0 other.0 && same_suffix one.1 other.1
same_entry (Some one) None = false
same_entry None other = false

-- two names of one entry, which differ in the counter alone
abbrev pub is_one_entry : List ℕ → List ℕ → Bool
is_one_entry name other = same_entry (entry_parts name) (entry_parts other)

-- the folder of a path, with the slash behind it
abbrev pub folder_part : Path → List ℕ
folder_part path = take (length path - length (file_name_of path)) path

-- an intent names two names of one entry in one folder: no other move has one
abbrev pub is_own_move : Path × Path → Bool
is_own_move move =
    bytes_eq (folder_part move.0) (folder_part move.1) && is_one_entry (file_name_of move.0) (file_name_of move.1)

-- a name is one of an entry's
abbrev pub IsOfEntry : EntryParts → List ℕ → Type 0
IsOfEntry parts name = entry_parts name ≡ Some parts

-- An entry's name with a counter, the one that it boots as, the one with no boot left and the one without a counter are
-- names of one entry. The last has no counter of its own: no entry that is installed has.
abbrev pub NamesAreOfOneEntry : Type 0
NamesAreOfOneEntry =
    (name base : List ℕ) (left done : ℕ) (suffix : Suffix) → IsCounted name base left done suffix
    → IsOfEntry (base, suffix) name
    × ((booted : List ℕ) → booted_name_of name ≡ Some booted → IsOfEntry (base, suffix) booted)
    × ((bad : List ℕ) → bad_name_of name ≡ Some bad → IsOfEntry (base, suffix) bad)
    × ((good : List ℕ) → good_name_of name ≡ Some good → IsUncounted good → IsOfEntry (base, suffix) good)

-- A move from one name of an entry to another in its folder is believed.
abbrev pub OwnMovesAreBelieved : Type 0
OwnMovesAreBelieved =
    (parts : EntryParts) (path : Path) (name : List ℕ)
    → IsOfEntry parts (file_name_of path) → IsOfEntry parts name → list_any is_slash name ≡ false
    → is_own_move (path, beside path name) ≡ true
