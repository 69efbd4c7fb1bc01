-- What a scan of the boot folders answers.
use Rattle.std.specs.Prelude.{◌≡◌, ◌↔◌, ◌+◌, ◌*◌, ℕ, true, List, length, nat_le, bytes_eq, Contains, Option, Some, None, IsSome, Result, MatchResult, if◌then◌else◌}
use Rattle.std.specs.List.{IsDistinct, filter_map}
use Rattle.boot_base.specs.Limits.{text_limit}
use Rattle.boot_base.specs.Paths.{Path, is_file_name, under}
use Rattle.boot_base.specs.declared.path.PathFault.{PathFault}
use Rattle.boot_base.specs.declared.path.PathFault.TheVariants as paths
use Rattle.menu_order.specs.Splits.{has_suffix}
use Rattle.menu_order.specs.declared.counted.Suffix.{Suffix}
use Rattle.menu_order.specs.declared.counted.Suffix.TheVariants.{Conf, Efi}
use Rattle.boot_machine.specs.Counts.{Counts, DiskFailed}
use Rattle.boot_machine.specs.Disk.{Files, has, path_cmp}
use Rattle.std.specs.Ordering.{on}
use Rattle.std.specs.declared.cmp.Ordering.{Ordering}
use Rattle.boot_machine.specs.declared.fault.ReadFault.{ReadFault}
use Rattle.boot_machine.specs.declared.fault.ReadFault.TheVariants as reads
use Rattle.menu_order.specs.declared.item.MenuItem.{MenuItem}
use Rattle.pe_reader.specs.Reads.{head_limit}
use Rattle.boot_entries.specs.Entries.{entry_if, type_count}
use Rattle.boot_entries.specs.declared.fault.MenuFault.{MenuFault}
use Rattle.boot_entries.specs.declared.fault.MenuFault.TheVariants as menus
use Rattle.boot_entries.specs.declared.fault.ScanFault.{ScanFault}
use Rattle.boot_entries.specs.declared.fault.ScanFault.TheVariants as scans
use Rattle.boot_entries.specs.declared.folders.Folders.{Folders}

-- a name of a file directly in a folder that has the suffix
abbrev pub IsEntryName : Files → Path → Suffix → List ℕ → Type 0
IsEntryName files folder suffix name =
    (is_file_name name ≡ true) × (has_suffix suffix name ≡ true) × (has files (under folder name) ≡ true)

-- these are the names of the files of a type in a folder, each once
pub record AreEntryNames (files : Files) (folder : Path) (suffix : Suffix) (names : List (List ℕ)) : Type 0 where
  pub distinct : IsDistinct bytes_eq names
  pub each : (name : List ℕ) → Contains names name ↔ IsEntryName files folder suffix name

-- the size of a file, if it is there with no more bytes than that
abbrev pub size_within : ℕ → Option (List ℕ) → Option ℕ
size_within limit None = None
size_within limit (Some bytes) = if nat_le (length bytes) limit then Some (length bytes) else None

-- the entries of the files of these names, in order
abbrev pub entries_named : Suffix → Files → Path → List (List ℕ) → List MenuItem
entries_named suffix files folder names = filter_map (λ name. entry_if suffix files (under folder name)) names

-- the most bytes that are read of an image: its headers and its os-release text
abbrev pub image_limit : ℕ
image_limit = head_limit + text_limit

-- the most bytes that are read of a file of a type
abbrev pub read_limit : Suffix → ℕ
read_limit Conf = text_limit
read_limit Efi = image_limit

-- the most bytes that are read of the files of both types
abbrev pub scan_limit : Files → Folders → ℕ
scan_limit files folders =
    read_limit Conf * type_count files folders Conf + read_limit Efi * type_count files folders Efi

-- the most bytes that are read for the menu of a partition: none if its folders are no paths
abbrev pub esp_limit : Files → Option Folders → ℕ
esp_limit files None = 0
esp_limit files (Some folders) = scan_limit files folders

-- the counts after a fault of a menu: a fault of the disk has its cause, and every other one leaves them
abbrev pub menu_counts : MenuFault → Counts → Counts → Type 0
menu_counts menus.Memory old new = new ≡ old
menu_counts menus.Disk old new = DiskFailed old new
menu_counts (menus.TooMany count) old new = new ≡ old

-- the counts after the menu of two folders was asked for
abbrev pub CountsMenu : {X : Type 0} → Result X MenuFault → Counts → Counts → Type 0
CountsMenu result old new = MatchResult result (λ _. new ≡ old) (λ fault. menu_counts fault old new)

-- what a fault says of the number of entry files, where it tells that they are too many
abbrev pub menu_many : MenuFault → (ℕ → Type 0) → Type 0
menu_many menus.Memory P = Unit {0}
menu_many menus.Disk P = Unit {0}
menu_many (menus.TooMany count) P = P count

-- what a fault of reading comes to
abbrev pub menu_fault : ReadFault → MenuFault
menu_fault reads.Memory = menus.Memory
menu_fault reads.Disk = menus.Disk

-- what a fault of the menu of two folders comes to for a partition
abbrev pub fault_of_menu : MenuFault → ScanFault
fault_of_menu menus.Memory = scans.Memory
fault_of_menu menus.Disk = scans.Disk
fault_of_menu (menus.TooMany count) = scans.TooMany count

-- what it comes to that a folder of a partition is no path
abbrev pub fault_of_path : PathFault → ScanFault
fault_of_path paths.Memory = scans.Memory
fault_of_path paths.BadPath = scans.LongEsp

-- the counts after a fault of a scan
abbrev pub scan_counts : ScanFault → Counts → Counts → Type 0
scan_counts scans.Memory old new = new ≡ old
scan_counts scans.Disk old new = DiskFailed old new
scan_counts scans.LongEsp old new = new ≡ old
scan_counts (scans.TooMany count) old new = new ≡ old

-- the counts after a scan
abbrev pub CountsScan : {X : Type 0} → Result X ScanFault → Counts → Counts → Type 0
CountsScan result old new = MatchResult result (λ _. new ≡ old) (λ fault. scan_counts fault old new)

-- what a fault says of the folders of a partition: that they are paths, or that one isn't; nothing for want of memory
abbrev pub fault_folders : ScanFault → Option Folders → Type 0
fault_folders scans.Memory folders = Unit {0}
fault_folders scans.Disk folders = IsSome folders
fault_folders scans.LongEsp folders = folders ≡ None
fault_folders (scans.TooMany count) folders = IsSome folders

-- the folders of a partition are paths, or the answer says that they aren't
abbrev pub FindsFolders : {X : Type 0} → Result X ScanFault → Option Folders → Type 0
FindsFolders result folders = MatchResult result (λ _. IsSome folders) (λ fault. fault_folders fault folders)

-- what a fault of a scan says of the number of entry files, where it tells that they are too many
abbrev pub scan_many : ScanFault → (ℕ → Type 0) → Type 0
scan_many scans.Memory P = Unit {0}
scan_many scans.Disk P = Unit {0}
scan_many scans.LongEsp P = Unit {0}
scan_many (scans.TooMany count) P = P count

-- entries in the order of their paths
abbrev pub path_order : MenuItem → MenuItem → Ordering
path_order = on (λ item. item.path) path_cmp
