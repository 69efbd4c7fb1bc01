-- The byte at each place of a finished image.
use Rattle.std.specs.Prelude.{ℕ, ◌+◌, ◌-◌, ◌*◌, ◌&&◌, Bool, nat_le, nat_lt, List, [], ◌∷◌, ◌++◌, length, replicate, get_or, option_map, Option, Some, None, if◌then◌else◌}
use Rattle.std.specs.List.{flat_map}
use Rattle.byteorder.specs.Endian.{little_bytes}
use Rattle.pe_reader.specs.declared.head.Head.{Head}
use Rattle.pe_reader.specs.declared.section.Section.{Section}
use Rattle.pe_reader.specs.Grammar.{Headers}
use Rattle.pe_reader.specs.LoadedBytes.{section_at_index}
use Rattle.pe_builder.specs.declared.size.PartSize.{PartSize}
use Rattle.pe_builder.specs.Layout.{head_with, new_sections}
use Rattle.pe_builder.specs.Replaced.{sbat_index, with_sbat_size}
use Rattle.pe_builder.specs.Refusals.{sbat_room}
use Rattle.pe_builder.specs.Image.{section_header}

-- bytes that stand from a place on
pub record Range : Type 0 where
  pub place : ℕ
  pub bytes : List ℕ

-- whether a place lies in a range
abbrev pub covers : Range → ℕ → Bool
covers r k = nat_le r.place k && nat_lt k (r.place + length r.bytes)

-- the byte at a place: that of the first range in which it lies, else what stands elsewhere
unfoldable pub byte_of : List Range → (ℕ → ℕ) → ℕ → ℕ
byte_of [] elsewhere k = elsewhere k
byte_of (r ∷ ranges) elsewhere k = if covers r k then get_or r.bytes (k - r.place) 0 else byte_of ranges elsewhere k

-- NumberOfSections, SizeOfInitializedData, SizeOfImage and CheckSum by their places in PE/COFF, and the new section
-- headers behind those of the stub
abbrev pub rewritten_fields : Head → Head → List ℕ → List Range → List Range
rewritten_fields before after headers more =
    record { place = before.pe_place + 6; bytes = little_bytes 2 after.section_count }
    ∷ record { place = before.pe_place + 24 + 8; bytes = little_bytes 4 after.initialized_size }
    ∷ record { place = before.pe_place + 24 + 56; bytes = little_bytes 4 after.image_size }
    ∷ record { place = before.pe_place + 24 + 64; bytes = little_bytes 4 0 }
    ∷ record { place = before.table_place + 40 * before.section_count; bytes = headers }
    ∷ more

-- a new `.sbat`: its length as VirtualSize, and its bytes with zeros behind them as raw data
abbrev pub rewritten_sbat : Headers → Option (List ℕ) → List Range
rewritten_sbat h None = []
rewritten_sbat h (Some sbat) =
    record { place = h.head.table_place + 40 * sbat_index h + 8; bytes = little_bytes 4 (length sbat) }
    ∷ record {
      place = (section_at_index h.sections (sbat_index h)).raw_place;
      bytes = sbat ++ replicate (sbat_room h - length sbat) 0;
    }
    ∷ []

-- the contents, each from the raw place of its section on
unfoldable pub raw_data : List Section → List (List ℕ) → List Range
raw_data [] contents = []
raw_data (s ∷ sections) [] = []
raw_data (s ∷ sections) (content ∷ contents) = record { place = s.raw_place; bytes = content }
    ∷ raw_data sections contents

-- The byte at a place of the finished image: that of a rewritten field, a new section header or the new `.sbat`, else
-- the stub's byte, and behind the stub that of the part whose raw data stand there, else zero.
abbrev pub finished_byte : Headers → List PartSize → List (List ℕ) → Option (List ℕ) → List ℕ → ℕ → ℕ
finished_byte h sizes contents sbat stub k =
    let changed = with_sbat_size h (option_map length sbat) in
    let new = new_sections changed (length stub) sizes in
    byte_of (rewritten_fields h.head (head_with changed new) (flat_map section_header new) (rewritten_sbat h sbat))
    (λ j. if nat_lt j (length stub) then get_or stub j 0 else byte_of (raw_data new contents) (λ _. 0) j) k
