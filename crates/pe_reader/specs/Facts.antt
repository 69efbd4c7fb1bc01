-- The nineteen facts on places in the bytes that make a file a PE32+ file (Microsoft PE/COFF), and what each number
-- of its headers is. Nothing here goes by steps: each fact looks at the bytes alone.
use Rattle.std.specs.Prelude.{◌≡◌, ◌≢◌, ◌<◌, ◌≤◌, ◌+◌, ◌*◌, ◌⊎◌, ℕ, List, length, nat_le, if◌then◌else◌, IsTrue}
use Rattle.std.specs.Int.{is_power_of_two}
use Rattle.pe_reader.specs.declared.head.Head.{Head}
use Rattle.pe_reader.specs.declared.section.Section.{Section}
use Rattle.pe_reader.specs.Fields.{u16_at, u32_at, part}
use Rattle.pe_reader.specs.Grammar.{Headers, section_limit}
use Rattle.pe_reader.specs.LoadedBytes.{section_at_index}

-- where the signature stands
abbrev pub signature_place : List ℕ → ℕ
signature_place bytes = u32_at bytes 60

-- where the optional header stands: behind the signature and the COFF header
abbrev pub optional_place : List ℕ → ℕ
optional_place bytes = signature_place bytes + 24

-- NumberOfSections of the COFF header
abbrev pub section_count : List ℕ → ℕ
section_count bytes = u16_at bytes (signature_place bytes + 6)

-- SizeOfOptionalHeader of the COFF header
abbrev pub optional_size : List ℕ → ℕ
optional_size bytes = u16_at bytes (signature_place bytes + 20)

-- where the section table stands: behind the optional header
abbrev pub table_place : List ℕ → ℕ
table_place bytes = optional_place bytes + optional_size bytes

-- where the section table ends
abbrev pub section_table_end : List ℕ → ℕ
section_table_end bytes = table_place bytes + 40 * section_count bytes

-- SectionAlignment of the optional header
abbrev pub section_alignment : List ℕ → ℕ
section_alignment bytes = u32_at bytes (optional_place bytes + 32)

-- FileAlignment of the optional header
abbrev pub file_alignment : List ℕ → ℕ
file_alignment bytes = u32_at bytes (optional_place bytes + 36)

-- SizeOfHeaders of the optional header
abbrev pub header_size : List ℕ → ℕ
header_size bytes = u32_at bytes (optional_place bytes + 60)

-- NumberOfRvaAndSizes of the optional header
abbrev pub directory_count : List ℕ → ℕ
directory_count bytes = u32_at bytes (optional_place bytes + 108)

-- the section header of 40 bytes at a place
abbrev pub section_from : List ℕ → ℕ → Section
section_from bytes place = record {
  name = part bytes place 8;
  virtual_size = u32_at bytes (place + 8);
  virtual_address = u32_at bytes (place + 12);
  raw_size = u32_at bytes (place + 16);
  raw_place = u32_at bytes (place + 20);
  flags = u32_at bytes (place + 36);
}

-- the section header at an index of the table
abbrev pub section_in : List ℕ → ℕ → Section
section_in bytes i = section_from bytes (table_place bytes + 40 * i)

-- raw data that are there lie between the headers and the end of the file
abbrev pub IsInside : ℕ → ℕ → Section → Type 0
IsInside headers size s = 0 < s.raw_size → (headers ≤ s.raw_place) × (s.raw_place + s.raw_size ≤ size)

-- the raw data of two sections that both have some don't meet
abbrev pub AreApart : Section → Section → Type 0
AreApart a b =
    0 < a.raw_size → 0 < b.raw_size → (a.raw_place + a.raw_size ≤ b.raw_place)
    ⊎ (b.raw_place + b.raw_size ≤ a.raw_place)

-- the nineteen facts
pub record IsPe (bytes : List ℕ) : Type 0 where
  pub long_enough : 64 ≤ length bytes
  pub begins_with_mz : u16_at bytes 0 ≡ 0x5A4D
  pub signature_past_start : 64 ≤ signature_place bytes
  pub coff_header_inside : signature_place bytes + 24 ≤ length bytes
  pub signature_is_pe : u32_at bytes (signature_place bytes) ≡ 0x4550
  pub few_sections : section_count bytes ≤ section_limit
  pub optional_long_enough : 112 ≤ optional_size bytes
  pub optional_inside : table_place bytes ≤ length bytes
  pub is_not_pe32 : u16_at bytes (optional_place bytes) ≢ 0x10B
  pub is_pe32_plus : u16_at bytes (optional_place bytes) ≡ 0x20B
  pub memory_aligned : IsTrue (is_power_of_two (section_alignment bytes)) × (section_alignment bytes ≤ 65536)
  pub file_aligned : IsTrue (is_power_of_two (file_alignment bytes)) × (file_alignment bytes ≤ section_alignment bytes)
  pub directories_inside : 112 + 8 * directory_count bytes ≤ optional_size bytes
  pub table_inside : section_table_end bytes ≤ length bytes
  pub headers_inside : (section_table_end bytes ≤ header_size bytes) × (header_size bytes ≤ length bytes)
  pub sizes_bounded : (i : ℕ) → i < section_count bytes → (section_in bytes i).virtual_size ≤ 268435456
  pub addresses_bounded : (i : ℕ) → i < section_count bytes
      → (section_in bytes i).virtual_address + (section_in bytes i).virtual_size ≤ 4294967296
  pub raw_data_inside : (i : ℕ) → i < section_count bytes
      → IsInside (header_size bytes) (length bytes) (section_in bytes i)
  pub raw_data_apart : (i j : ℕ) → i < j → j < section_count bytes → AreApart (section_in bytes j) (section_in bytes i)

-- the numbers of the headers before the section table, each at its place
abbrev pub head_in : List ℕ → Head
head_in bytes = record {
  pe_place = signature_place bytes;
  section_count = section_count bytes;
  optional_size = optional_size bytes;
  initialized_size = u32_at bytes (optional_place bytes + 8);
  section_alignment = section_alignment bytes;
  file_alignment = file_alignment bytes;
  image_size = u32_at bytes (optional_place bytes + 56);
  header_size = header_size bytes;
  directory_count = directory_count bytes;
  certificate_size = (if nat_le 5 (directory_count bytes) then u32_at bytes (optional_place bytes + 148) else 0);
  table_place = table_place bytes;
}

-- the headers say what stands at the fields' places, the sections in the table's order
pub record Describes (bytes : List ℕ) (h : Headers) : Type 0 where
  pub head_is : h.head ≡ head_in bytes
  pub count_is : length h.sections ≡ section_count bytes
  pub sections_are : (i : ℕ) → i < section_count bytes → section_at_index h.sections i ≡ section_in bytes i
