-- The bytes that a loader puts in memory for a section (Microsoft PE/COFF; the first section of a name counts).
use Rattle.std.specs.Prelude.{ℕ, ◌-◌, Bool, List, [], ◌++◌, min, replicate, get_or, Option, Some, None, Result, Ok, Err}
use Rattle.std.specs.List.{find}
use Rattle.std.specs.Str.{bytes_eq}
use Rattle.boot_base.specs.Names.{short_name}
use Rattle.pe_reader.specs.declared.fault.FailedCheck.{FailedCheck}
use Rattle.pe_reader.specs.declared.section.Section.{Section}
use Rattle.pe_reader.specs.declared.section.LoadedRange.{LoadedRange}
use Rattle.pe_reader.specs.Fields.{part}
use Rattle.pe_reader.specs.Grammar.{Headers, pe_of}

-- whether a section has this name
abbrev pub is_named : List ℕ → Section → Bool
is_named name s = bytes_eq (short_name s.name) name

-- a section without a name and without bytes
abbrev pub no_section : Section
no_section = record { name = []; virtual_size = 0; virtual_address = 0; raw_size = 0; raw_place = 0; flags = 0 }

-- the section at an index of a list
abbrev pub section_at_index : List Section → ℕ → Section
section_at_index sections i = get_or sections i no_section

-- the first VirtualSize bytes of the raw data, and the zeros that fill up VirtualSize
abbrev pub range_of : Section → LoadedRange
range_of s = record {
  place = s.raw_place;
  length = min s.virtual_size s.raw_size;
  zeros = s.virtual_size - min s.virtual_size s.raw_size;
}

-- the bytes that a range says: those that stand in the file, and behind them its zeros
abbrev pub bytes_in : List ℕ → LoadedRange → List ℕ
bytes_in bytes r = part bytes r.place r.length ++ replicate r.zeros 0

-- the loaded bytes of a section of a file
abbrev pub loaded_by : List ℕ → Section → List ℕ
loaded_by bytes s = bytes_in bytes (range_of s)

-- the loaded bytes of a section that may be there, none where it isn't
abbrev pub loaded_of : List ℕ → Option Section → List ℕ
loaded_of bytes None = []
loaded_of bytes (Some s) = loaded_by bytes s

-- the loaded bytes of the first section of a name, by headers that are those of a PE32+ file; else none
abbrev pub loaded_in : List ℕ → List ℕ → Result Headers FailedCheck → List ℕ
loaded_in bytes name (Err e) = []
loaded_in bytes name (Ok h) = loaded_of bytes (find (is_named name) h.sections)

-- the loaded bytes of the first section of a name, none where there is no such section
abbrev pub loaded_bytes : List ℕ → List ℕ → List ℕ
loaded_bytes bytes name = loaded_in bytes name (pe_of bytes)
