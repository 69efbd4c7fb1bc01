-- Where the new sections of an image stand (Microsoft PE/COFF; the order and the flags are those of ukify).
use Rattle.std.specs.Prelude.{◌≡◌, ℕ, ◌+◌, ◌^◌, ◌<◌, List, [], ◌∷◌, ◌++◌, length, max}
use Rattle.std.specs.Int.{next_multiple_of}
use Rattle.std.specs.List.{sum_by, fold}
use Rattle.pe_reader.specs.declared.head.Head.{Head}
use Rattle.pe_reader.specs.declared.section.Section.{Section}
use Rattle.pe_reader.specs.Grammar.{Headers}
use Rattle.uki_parts.specs.Names.{padded_bytes}
use Rattle.pe_builder.specs.declared.size.PartSize.{PartSize}

-- where a section ends in memory
abbrev pub virtual_end : Section → ℕ
virtual_end s = s.virtual_address + s.virtual_size

-- the greatest of an address and the ends of sections
unfoldable pub end_after : ℕ → List Section → ℕ
end_after address sections = fold (λ a s. max a (virtual_end s)) address sections

-- A part becomes a section: VirtualAddress is an address rounded up to SectionAlignment, PointerToRawData the file's
-- length rounded up to FileAlignment, SizeOfRawData the part's length rounded up to FileAlignment.
abbrev pub section_for : Head → ℕ → ℕ → PartSize → Section
section_for h file_length address p = record {
  name = padded_bytes p.name;
  virtual_size = p.length;
  virtual_address = next_multiple_of address h.section_alignment;
  raw_size = next_multiple_of p.length h.file_alignment;
  raw_place = next_multiple_of file_length h.file_alignment;
  flags = p.flags;
}

-- the file's length behind a section
abbrev pub raw_end : Section → ℕ
raw_end s = s.raw_place + s.raw_size

-- the sections for parts, one behind the other
unfoldable pub sections_for : Head → ℕ → ℕ → List PartSize → List Section
sections_for h file_length address [] = []
sections_for h file_length address (p ∷ parts) =
    section_for h file_length address p
    ∷ sections_for h (raw_end (section_for h file_length address p))
    (virtual_end (section_for h file_length address p)) parts

-- the file's length behind one part more
abbrev pub file_behind : Head → ℕ → PartSize → ℕ
file_behind h file_length p = next_multiple_of file_length h.file_alignment + next_multiple_of p.length h.file_alignment

-- the address behind one part more
abbrev pub address_behind : Head → ℕ → PartSize → ℕ
address_behind h address p = next_multiple_of address h.section_alignment + p.length

-- the file's length behind parts
unfoldable pub length_after : Head → ℕ → List PartSize → ℕ
length_after h file_length parts = fold (file_behind h) file_length parts

-- the address behind parts
unfoldable pub address_after : Head → ℕ → List PartSize → ℕ
address_after h address parts = fold (address_behind h) address parts

-- the new sections of a stub of that length
abbrev pub new_sections : Headers → ℕ → List PartSize → List Section
new_sections h stub_length parts = sections_for h.head stub_length (end_after h.head.header_size h.sections) parts

-- the stub's head with the numbers of an image that has more sections
abbrev pub head_with : Headers → List Section → Head
head_with h new = record h.head {
  section_count = h.head.section_count + length new;
  initialized_size = h.head.initialized_size + sum_by (λ s. s.virtual_size) new;
  image_size = next_multiple_of (end_after h.head.header_size (h.sections ++ new)) h.head.section_alignment;
}

-- the headers with more sections
abbrev pub headers_with : Headers → List Section → Headers
headers_with h new = record { head = head_with h new; sections = h.sections ++ new }

-- what may become a section
pub record FitsPart (p : PartSize) : Type 0 where
  pub name : length (padded_bytes p.name) ≡ 8
  pub flags : p.flags < 2 ^ 32
