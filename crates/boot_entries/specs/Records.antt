-- The entry of a file, by its path and its bytes (UAPI Boot Loader Specification; which files are passed over is this
-- project's choice).
use Rattle.std.specs.Prelude.{ℕ, ◌==◌, Bool, not, ◌&&◌, List, [], codes, length, nat_le, is_some, Option, Some, None, Result, Ok, Err, if◌then◌else◌}
use Rattle.boot_base.specs.Limits.{file_limit, text_limit}
use Rattle.boot_base.specs.Paths.{Path, file_name_of}
use Rattle.menu_order.specs.declared.counted.Suffix.TheVariants.{Conf, Efi}
use Rattle.boot_texts.specs.BootEntries.{boots, type1_of}
use Rattle.boot_texts.specs.declared.entry.Type1.{Type1}
use Rattle.boot_texts.specs.OsRelease.{os_pairs, title_of, version_of, sort_key_of}
use Rattle.pe_reader.specs.Grammar.{Headers, pe_of}
use Rattle.pe_reader.specs.LoadedBytes.{loaded_in}
use Rattle.pe_reader.specs.declared.fault.FailedCheck.{FailedCheck}
use Rattle.boot_texts.specs.KeyValues.{Pair}
use Rattle.menu_order.specs.declared.item.MenuItem.{MenuItem}
use Rattle.boot_entries.specs.Names.{parts_of_name}
use Rattle.boot_entries.specs.declared.fault.Missing.{Missing}
use Rattle.boot_entries.specs.declared.fault.Missing.TheVariants as missing

-- ---- type 1

-- the entry of a type 1 file at a path
abbrev pub type1_item : Path → Type1 → MenuItem
type1_item path entry = record {
  path = path;
  suffix = Conf;
  base = (parts_of_name Conf (file_name_of path)).base;
  counter = (parts_of_name Conf (file_name_of path)).counter;
  title = entry.title;
  version = entry.version;
  sort_key = entry.sort_key;
  machine_id = entry.machine_id;
  linux = entry.linux;
  efi = entry.efi;
  initrds = entry.initrds;
  options = entry.options;
}

-- a type 1 file is an entry where it has at most 65,536 bytes and says what to boot
abbrev pub type1_entry : Path → List ℕ → Option MenuItem
type1_entry path bytes =
    if nat_le (length bytes) text_limit && boots bytes then Some (type1_item path (type1_of bytes)) else None

-- ---- type 2

-- why a file is no type 2 entry: a check of PE32+ fails, or something is missing
pub data Unfit : Type 0 where
  NotPe : FailedCheck → Unfit
  NotUki : Missing → Unfit

-- what has to hold before the rest is looked at
abbrev pub unless_missing : Bool → Missing → Result MenuItem Unfit → Result MenuItem Unfit
unless_missing holds missing rest = if holds then rest else Err (NotUki missing)

-- the entry of a type 2 file at a path: what its os-release text says, and no machine-id, no paths and no options
abbrev pub type2_item : Path → List Pair → MenuItem
type2_item path pairs = record {
  path = path;
  suffix = Efi;
  base = (parts_of_name Efi (file_name_of path)).base;
  counter = (parts_of_name Efi (file_name_of path)).counter;
  title = title_of pairs;
  version = version_of pairs;
  sort_key = sort_key_of pairs;
  machine_id = None;
  linux = None;
  efi = None;
  initrds = [];
  options = [];
}

-- the loaded bytes of the os-release section are at least one and at most 65,536
abbrev pub is_os_length : ℕ → Bool
is_os_length n = not (n == 0) && nat_le n text_limit

-- the entry of an os-release text
unfoldable pub titled_item : Path → List Pair → Result MenuItem Unfit
titled_item path pairs = unless_missing (is_some (title_of pairs)) missing.Title (Ok (type2_item path pairs))

-- the entry of an image with these headers
unfoldable pub uki_from : Path → List ℕ → Result Headers FailedCheck → Result MenuItem Unfit
uki_from path bytes (Err check) = Err (NotPe check)
uki_from path bytes (Ok headers) =
    unless_missing (not (length (loaded_in bytes (codes ".linux") (Ok headers)) == 0)) missing.Linux (
    unless_missing (is_os_length (length (loaded_in bytes (codes ".osrel") (Ok headers)))) missing.Osrel (
    titled_item path (os_pairs (loaded_in bytes (codes ".osrel") (Ok headers)))))

-- the entry of a file's bytes, as if the file stood at the path, or the first demand that it doesn't meet
abbrev pub uki_of : Path → List ℕ → Result MenuItem Unfit
uki_of path bytes = uki_from path bytes (pe_of bytes)

-- what was found, if anything
abbrev pub value_if_ok : {A E : Type 0} → Result A E → Option A
value_if_ok (Ok a) = Some a
value_if_ok (Err e) = None

-- a type 2 file is an entry where it has at most 268,435,456 bytes and meets the demands
abbrev pub type2_entry : Path → List ℕ → Option MenuItem
type2_entry path bytes = if nat_le (length bytes) file_limit then value_if_ok (uki_of path bytes) else None
