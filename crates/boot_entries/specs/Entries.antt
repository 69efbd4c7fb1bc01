-- The entries of the boot files, and their menu.
use Rattle.std.specs.Prelude.{◌≡◌, ℕ, true, false, Bool, ◌&&◌, ◌+◌, List, bytes_eq, count_by, Option, Some, None, option_and_then, if◌then◌else◌}
use Rattle.std.specs.List.{filter_map}
use Rattle.std.specs.FinMap as map
use Rattle.boot_base.specs.Layout.{entries_below, images_below}
use Rattle.boot_base.specs.Paths.{Path, path_of, path_below, under, file_name_of, is_file_name}
use Rattle.menu_order.specs.Splits.{has_suffix}
use Rattle.menu_order.specs.declared.counted.Suffix.{Suffix}
use Rattle.menu_order.specs.declared.counted.Suffix.TheVariants.{Conf, Efi}
use Rattle.boot_machine.specs.Disk.{Files}
use Rattle.menu_order.specs.declared.item.MenuItem.{MenuItem}
use Rattle.menu_order.specs.Menu.{menu_of}
use Rattle.boot_entries.specs.Records.{type1_entry, type2_entry}
use Rattle.boot_entries.specs.declared.folders.Folders.{Folders}

-- the most entry files of both folders together
abbrev pub entry_limit : ℕ
entry_limit = 4096

-- the two folders, if both have paths
abbrev pub folders_from : Option Path → Option Path → Option Folders
folders_from None images = None
folders_from (Some entries) None = None
folders_from (Some entries) (Some images) = Some (record { entries = entries; images = images })

-- the two folders of an EFI system partition, if both are paths
abbrev pub esp_folders : Path → Option Folders
esp_folders esp = folders_from (path_below esp entries_below) (path_below esp images_below)

-- the folder of the files of a type
abbrev pub folder_of : Folders → Suffix → Path
folder_of folders Conf = folders.entries
folder_of folders Efi = folders.images

-- what a file of a type is read as at a path
abbrev pub entry_of : Suffix → Path → List ℕ → Option MenuItem
entry_of Conf path bytes = type1_entry path bytes
entry_of Efi path bytes = type2_entry path bytes

-- An item is an entry of the files: that of a valid file, which stands directly in the folder of its type, under a name
-- with the suffix of that type, and whose path is that of a boot file.
pub record IsEntry (files : Files) (folders : Folders) (item : MenuItem) : Type 0 where
  pub suffix : Suffix
  pub name : List ℕ
  pub bytes : List ℕ
  pub is_name : is_file_name name ≡ true
  pub of_type : has_suffix suffix name ≡ true
  pub stands : item.path ≡ under (folder_of folders suffix) name
  pub is_path : path_of item.path ≡ Some item.path
  pub there : map.get files item.path ≡ Some bytes
  pub valid : entry_of suffix item.path bytes ≡ Some item

-- ---- as plain functions of the files

-- a path is that of a file directly in the folder of a type, under a name with the suffix of that type
abbrev pub stands_in : Folders → Suffix → Path → Bool
stands_in folders suffix path =
    is_file_name (file_name_of path)
    && has_suffix suffix (file_name_of path)
    && bytes_eq path (under (folder_of folders suffix) (file_name_of path))

-- the path that was read is the text itself
abbrev pub reads_as : Path → Option Path → Bool
reads_as text None = false
reads_as text (Some path) = bytes_eq path text

-- a text that is the path of a boot file in its normal form
abbrev pub own_path : Path → Option Path
own_path text = if reads_as text (path_of text) then Some text else None

-- what the file of a type at a path is read as, if it is there
abbrev pub entry_at : Suffix → Files → Path → Option MenuItem
entry_at suffix files path = option_and_then (entry_of suffix path) (map.get files path)

-- what the file of a type is read as, if it is there and the text is its path in its normal form
abbrev pub entry_if : Suffix → Files → Path → Option MenuItem
entry_if suffix files text = option_and_then (entry_at suffix files) (own_path text)

-- the entry at a path, if there is one
abbrev pub entry_in : Files → Folders → Path → Option MenuItem
entry_in files folders path =
    if stands_in folders Conf path then entry_if Conf files path
    else (if stands_in folders Efi path then entry_if Efi files path else None)

-- the entries of the files, in the order of their paths
unfoldable pub entries_of : Files → Folders → List MenuItem
entries_of files folders = filter_map (entry_in files folders) (map.keys files)

-- how many files of a type there are, valid or not, whether or not their paths are those of boot files
unfoldable pub type_count : Files → Folders → Suffix → ℕ
type_count files folders suffix = count_by (stands_in folders suffix) (map.keys files)

-- how many entry files there are
abbrev pub entry_count : Files → Folders → ℕ
entry_count files folders = type_count files folders Conf + type_count files folders Efi

-- the menu of the files
abbrev pub boot_menu : Files → Folders → List MenuItem
boot_menu files folders = menu_of (entries_of files folders)
