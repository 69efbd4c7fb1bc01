-- A stub whose `.sbat` is replaced in place.
use Rattle.std.specs.Prelude.{ℕ, ◌+◌, ◌-◌, ◌*◌, ◌<◌, ◌≤◌, List, [], ◌∷◌, ◌++◌, length, set, replicate, position, unwrap_or, Option, Some, None}
use Rattle.byteorder.specs.Endian.{little_bytes}
use Rattle.pe_reader.specs.declared.section.Section.{Section}
use Rattle.pe_reader.specs.Grammar.{Headers}
use Rattle.pe_reader.specs.LoadedBytes.{section_at_index, is_named}
use Rattle.pe_builder.specs.Puts.{put}

-- the bytes of `.sbat`
abbrev pub sbat_name : List ℕ
sbat_name = 46 ∷ 115 ∷ 98 ∷ 97 ∷ 116 ∷ []

-- the index of the first section of that name, or the number of sections where there is none
abbrev pub sbat_index : Headers → ℕ
sbat_index h = unwrap_or (position (is_named sbat_name) h.sections) (length h.sections)

-- A new `.sbat` of at least one byte is given only where the stub has one.
abbrev pub MayReplace : Headers → Option ℕ → Type 0
MayReplace h None = Unit {0}
MayReplace h (Some size) = (1 ≤ size) × (sbat_index h < length h.sections)

-- the section at an index, with another VirtualSize
abbrev pub resized_section : Headers → ℕ → ℕ → Section
resized_section h i size = record (section_at_index h.sections i) { virtual_size = size }

-- headers with another VirtualSize of the section at an index
abbrev pub resized_headers : Headers → ℕ → ℕ → Headers
resized_headers h i size = record h { sections = set h.sections i (resized_section h i size) }

-- the sections with a new `.sbat` of that length, where it is given
abbrev pub resized_sections : Headers → Option ℕ → List Section
resized_sections h None = h.sections
resized_sections h (Some size) = set h.sections (sbat_index h) (resized_section h (sbat_index h) size)

-- the headers with a new `.sbat` of that length, where it is given
abbrev pub with_sbat_size : Headers → Option ℕ → Headers
with_sbat_size h sbat = record h { sections = resized_sections h sbat }

-- the stub with other raw data of a section, zeros behind them, and with their length in its header
unfoldable pub with_content : Headers → ℕ → List ℕ → List ℕ → List ℕ
with_content h i content stub =
    put (h.head.table_place + 40 * i + 8) (little_bytes 4 (length content)) (
    put (section_at_index h.sections i).raw_place
    (content ++ replicate ((section_at_index h.sections i).raw_size - length content) 0) stub)

-- the stub with a new `.sbat`, where it is given
abbrev pub with_sbat : Headers → Option (List ℕ) → List ℕ → List ℕ
with_sbat h None stub = stub
with_sbat h (Some sbat) stub = with_content h (sbat_index h) sbat stub
