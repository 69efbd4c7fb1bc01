-- What a plan says.
use Rattle.std.specs.Prelude.{◌≡◌, ℕ, ◌+◌, ◌-◌, ◌*◌, ◌≤◌, ◌<◌, List, ◌++◌, length, map, replicate, sum_by, option_map, Option, Some, None, Result, Ok, Err}
use Rattle.std.specs.List.{flat_map}
use Rattle.std.specs.Int.{next_multiple_of}
use Rattle.byteorder.specs.Endian.{little_bytes}
use Rattle.pe_builder.specs.declared.fault.LayoutFault.{LayoutFault}
use Rattle.pe_builder.specs.declared.fault.LayoutFault.TheVariants.{Memory}
use Rattle.pe_reader.specs.declared.head.Head.{Head}
use Rattle.pe_reader.specs.Grammar.{Headers, pe_of}
use Rattle.pe_reader.specs.LoadedBytes.{section_at_index}
use Rattle.pe_builder.specs.declared.size.PartSize.{PartSize}
use Rattle.pe_builder.specs.declared.plan.ImageLayout.{ImageLayout}
use Rattle.pe_builder.specs.declared.plan.SbatPlace.{SbatPlace}
use Rattle.pe_builder.specs.Puts.{put}
use Rattle.pe_builder.specs.Replaced.{sbat_index, with_sbat_size}
use Rattle.pe_builder.specs.Refusals.{sbat_room, IsBuildable}
use Rattle.pe_builder.specs.Layout.{head_with, new_sections, address_after, length_after}
use Rattle.pe_builder.specs.Image.{section_header, with_fields, with_raw, finished_image}

-- where the stub's `.sbat` stands, that is replaced by one of that length
abbrev pub sbat_place : Headers → Option ℕ → Option SbatPlace
sbat_place h None = None
sbat_place h (Some size) = Some (record {
  size_place = h.head.table_place + 40 * sbat_index h + 8;
  raw_place = (section_at_index h.sections (sbat_index h)).raw_place;
  raw_size = sbat_room h;
  length = size;
})

-- The plan of an image of a stub of that length with these headers, of parts of these sizes, and of a new `.sbat` of
-- that length where the stub's is replaced in place.
pub record PlansImage (plan : ImageLayout) (h : Headers) (stub_length : ℕ) (sizes : List PartSize)
    (sbat : Option ℕ) : Type 0 where
  pub stub_length_is : plan.stub_length ≡ stub_length
  pub before : plan.before ≡ h.head
  pub sections : plan.sections.items ≡ new_sections (with_sbat_size h sbat) stub_length sizes
  pub after : plan.after ≡ head_with (with_sbat_size h sbat) (new_sections (with_sbat_size h sbat) stub_length sizes)
  pub sbat_is : plan.sbat ≡ sbat_place h sbat
  pub image_length : plan.image_length ≡ length_after h.head stub_length sizes
  pub buildable : IsBuildable h stub_length sizes sbat

-- the head of an image with new sections behind an address
abbrev pub head_after : Head → ℕ → List PartSize → Head
head_after h start parts = record h {
  section_count = h.section_count + length parts;
  initialized_size = h.initialized_size + sum_by (λ p. p.length) parts;
  image_size = next_multiple_of (address_after h start parts) h.section_alignment;
}

-- how many bytes the image of a plan has
abbrev pub planned_length : ImageLayout → ℕ
planned_length plan = plan.image_length

-- A plan was made of which P holds exactly where nothing is refused, unless memory ran out.
abbrev pub Makes : (ImageLayout → Type 0) → Result ImageLayout LayoutFault → Option LayoutFault → Type 0
Makes P (Ok plan) refused = (refused ≡ None) × P plan
Makes P (Err Memory) refused = Unit {0}
Makes P (Err f) refused = refused ≡ Some f

-- a new `.sbat`, where a length of it is given
abbrev pub sbat_if_in_place : Option ℕ → List ℕ → Option (List ℕ)
sbat_if_in_place in_place sbat = option_map (λ _. sbat) in_place

-- The plan was made for a stub with these bytes, parts of these lengths, and a new `.sbat` of this length if it
-- replaces one.
pub record IsPlanFor (plan : ImageLayout) (stub : List ℕ) (contents : List (List ℕ)) (sbat : List ℕ) : Type 0 where
  pub headers : Headers
  pub sizes : List PartSize
  pub in_place : Option ℕ
  pub reads : pe_of stub ≡ Ok headers
  pub plans : PlansImage plan headers (length stub) sizes in_place
  pub lengths : map length contents ≡ map (λ p. p.length) sizes
  pub sbat_length : option_map length (sbat_if_in_place in_place sbat) ≡ in_place

-- The bytes are the finished image of whatever the plan was made for.
abbrev pub IsFinished : ImageLayout → List ℕ → List (List ℕ) → List ℕ → List ℕ → Type 0
IsFinished plan stub contents sbat image =
    (h : Headers) (sizes : List PartSize) (in_place : Option ℕ) →
    pe_of stub ≡ Ok h → PlansImage plan h (length stub) sizes in_place →
    option_map length (sbat_if_in_place in_place sbat) ≡ in_place →
    image ≡ finished_image h sizes contents (sbat_if_in_place in_place sbat) stub

-- ---- the bytes that a plan makes, by its own numbers: an image that is written is planned as these

-- the stub with a new `.sbat` at its place
abbrev pub replaced_by : Option SbatPlace → List ℕ → List ℕ → List ℕ
replaced_by None sbat stub = stub
replaced_by (Some p) sbat stub =
    put p.size_place (little_bytes 4 p.length) (put p.raw_place (sbat ++ replicate (p.raw_size - length sbat) 0) stub)

-- the image that a plan makes of a stub, contents and a new `.sbat`
abbrev pub image_by : ImageLayout → List (List ℕ) → List ℕ → List ℕ → List ℕ
image_by plan contents sbat stub =
    with_raw plan.before.file_alignment (
    with_fields plan.before plan.after (flat_map section_header plan.sections.items) (replaced_by plan.sbat sbat stub))
    contents

-- what a plan writes lies in a stub of that length
abbrev pub FitsPlace : Option SbatPlace → ℕ → ℕ → Type 0
FitsPlace None stub_length sbat_length = Unit {0}
FitsPlace (Some p) stub_length sbat_length =
    (sbat_length ≤ p.raw_size) × (p.raw_place + p.raw_size ≤ stub_length) × (p.size_place + 4 ≤ stub_length)

-- all that a plan writes into the stub lies in a stub of that length, and FileAlignment isn't 0
pub record FitsStub (plan : ImageLayout) (stub_length sbat_length : ℕ) : Type 0 where
  pub alignment : 0 < plan.before.file_alignment
  pub before : plan.before.pe_place + 136 ≤ plan.before.table_place
  pub table : plan.before.table_place + 40 * (plan.before.section_count + length plan.sections.items) ≤ stub_length
  pub sbat : FitsPlace plan.sbat stub_length sbat_length
