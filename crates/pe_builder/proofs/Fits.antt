-- What it takes for a stub to have an image, in numbers.
use Rattle.std.proofs.Common.{ℕ, ◌+◌, ◌*◌, ◌^◌, ◌<◌, ◌≤◌, List, length, Option, Some, None}
use Rattle.std.specs.List.{AllByRecursion}
use Rattle.pe_reader.specs.Prelude.{Headers, section_at_index}
use Rattle.pe_builder.specs.declared.size.PartSize.{PartSize}
use Rattle.pe_builder.specs.Layout.{new_sections, head_with, length_after, FitsPart}
use Rattle.pe_builder.specs.Replaced.{sbat_index}
use Rattle.pe_builder.specs.Refusals.{sbat_room}

-- a stub of that length with these headers has an image with parts of these sizes
pub record HasImage (h : Headers) (stub_length : ℕ) (parts : List PartSize) : Type 0 where
  pub fit : AllByRecursion FitsPart parts
  pub room : h.head.table_place + 40 * (h.head.section_count + length parts) ≤ h.head.header_size
  pub few : h.head.section_count + length parts ≤ 96
  pub image_size : (head_with h (new_sections h stub_length parts)).image_size < 2 ^ 32
  pub initialized_size : (head_with h (new_sections h stub_length parts)).initialized_size < 2 ^ 32
  pub file_length : length_after h.head stub_length parts ≤ 268435456

-- the content fits the section's raw data, and its addresses
pub record FitsSection (h : Headers) (i : ℕ) (content : List ℕ) : Type 0 where
  pub inside : i < length h.sections
  pub some : 0 < length content
  pub room : length content ≤ (section_at_index h.sections i).raw_size
  pub size : length content ≤ 268435456
  pub memory : (section_at_index h.sections i).virtual_address + length content ≤ 4294967296

-- a new `.sbat` of that length, where it is given, has room and a section
abbrev pub FitsSbat : Headers → Option ℕ → Type 0
FitsSbat h None = Unit {0}
FitsSbat h (Some size) = (0 < size) × (size ≤ sbat_room h) × (sbat_index h < length h.sections)
