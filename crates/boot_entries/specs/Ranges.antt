-- Where the loaded bytes of a section stand in a file.
use Rattle.std.specs.Prelude.{◌≡◌, ◌≤◌, List, ℕ, codes, length, drop, Result, Ok, Err}
use Rattle.boot_base.specs.Paths.{Path}
use Rattle.pe_reader.specs.LoadedBytes.{bytes_in, loaded_bytes}
use Rattle.pe_reader.specs.declared.section.LoadedRange.{LoadedRange}
use Rattle.boot_texts.specs.OsRelease.{os_pairs}
use Rattle.boot_entries.specs.Records.{NotUki, titled_item, uki_of}
use Rattle.boot_entries.specs.declared.fault.Missing.{Missing}

-- the loaded bytes of a name are those of this range, whose raw part lies in the file
pub record IsRange (file name : List ℕ) (range : LoadedRange) : Type 0 where
  pub inside : range.length ≤ length (drop range.place file)
  pub bytes : loaded_bytes file name ≡ bytes_in file range

-- the file is an entry as the os-release text in this range says
pub record IsOsrel (file : List ℕ) (range : LoadedRange) : Type 0 where
  pub range_is : IsRange file (codes ".osrel") range
  pub says : (path : Path) → uki_of path file ≡ titled_item path (os_pairs (bytes_in file range))

-- what an image's headers say of its entry: where its os-release text stands, or what is missing
abbrev pub FindsOsrel : List ℕ → Result LoadedRange Missing → Type 0
FindsOsrel file (Ok range) = IsOsrel file range
FindsOsrel file (Err missing) = (path : Path) → uki_of path file ≡ Err (NotUki missing)
