-- Payloads: kernels and initrds that stand in an EFI system partition under their digests, where entries name them
-- (profile).
use Rattle.std.specs.Prelude.{◌≡◌, ◌≤◌, ◌+◌, ℕ, ◌&&◌, Bool, false, List, ◌++◌, bytes_eq, length, if◌then◌else◌, Option, Some, None}
use Rattle.std.specs.FinMap as map
use Rattle.std.specs.List.{list_any}
use Rattle.std.specs.Option.{option_to_list}
use Rattle.std.specs.Str.{is_utf8}
use Rattle.hex.specs.Hex.{encode_lower}
use Rattle.boot_base.specs.Layout.{entries_below, images_below, payloads_below}
use Rattle.boot_base.specs.Paths.{Path, file_name_of, path_below, under}
use Rattle.pcr_values.specs.Banks.{digest_of}
use Rattle.pcr_values.specs.declared.bank.Bank.TheVariants as banks
use Rattle.boot_machine.specs.Disk.{Files}
use Rattle.menu_order.specs.declared.item.MenuItem.{MenuItem}
use Rattle.boot_entries.specs.declared.folders.Folders.{Folders}
use Rattle.boot_texts.specs.EntryText.{is_payload_name}

-- the name of a payload's file: its SHA-256 in hexadecimal digits
unfoldable pub payload_name : List ℕ → List ℕ
payload_name bytes = encode_lower (digest_of banks.Sha256 bytes)

-- the folder of an ESP's payloads, which is named by no word
abbrev pub payload_folder : Path → Path
payload_folder esp = under esp payloads_below

-- each payload has a path in the folder: a slash and 64 digits more
abbrev pub HasRoom : Path → Type 0
HasRoom folder = length folder + 65 ≤ 1024

-- where the payload of these bytes stands
abbrev pub payload_path : Path → List ℕ → Path
payload_path esp bytes = under (payload_folder esp) (payload_name bytes)

-- what an entry names: its kernel, its EFI program and its initrds
abbrev pub named_values : MenuItem → List (List ℕ)
named_values item = option_to_list item.linux ++ (option_to_list item.efi ++ item.initrds)

-- the path below the ESP that a value names; a value that isn't UTF-8 names none
abbrev pub path_of_value : Path → List ℕ → Option Path
path_of_value esp value = if is_utf8 value then path_below esp value else None

-- the path that is named, if there is one, is this one
abbrev pub is_named_by : Path → Option Path → Bool
is_named_by path None = false
is_named_by path (Some named) = bytes_eq named path

-- a value names the file at a path below the ESP
abbrev pub names_path : Path → Path → List ℕ → Bool
names_path esp path value = is_named_by path (path_of_value esp value)

-- an entry names the file at a path
abbrev pub item_names : Path → Path → MenuItem → Bool
item_names esp path item = list_any (names_path esp path) (named_values item)

-- the path is that of a payload: directly in the folder, under a name of 64 digits
abbrev pub is_payload_path : Path → Path → Bool
is_payload_path esp path =
    is_payload_name (file_name_of path) && bytes_eq (under (payload_folder esp) (file_name_of path)) path

-- a file is there whose name is its digest
pub record HasPayload (esp : Path) (name : List ℕ) (view : Files) : Type 0 where
  pub bytes : List ℕ
  pub there : map.get view (under (payload_folder esp) name) ≡ Some bytes
  pub is : payload_name bytes ≡ name

-- the folders of an ESP
abbrev pub folders_at : Path → Folders
folders_at esp =
    record { entries = under esp entries_below; images = under esp images_below }
