-- Why there is no image of a stub and parts: the first refusal in this order (profile).
use Rattle.std.specs.Prelude.{◌≡◌, Bool, ℕ, ◌+◌, ◌*◌, ◌||◌, ◌==◌, not, nat_lt, nat_le, min, List, [], ◌∷◌, ◌++◌, length, Option, Some, None, if◌then◌else◌, sum_by}
use Rattle.std.specs.Int.{next_multiple_of}
use Rattle.std.specs.List.{list_any, AllByRecursion}
use Rattle.std.specs.Str.{bytes_eq}
use Rattle.boot_base.specs.Limits.{file_limit}
use Rattle.pe_reader.specs.declared.section.Section.{Section}
use Rattle.pe_reader.specs.LoadedBytes.{is_named, section_at_index}
use Rattle.pe_reader.specs.Grammar.{Headers}
use Rattle.uki_parts.specs.Names.{name_bytes}
use Rattle.pe_builder.specs.declared.size.PartSize.{PartSize}
use Rattle.pe_builder.specs.declared.fault.LayoutFault.{LayoutFault}
use Rattle.pe_builder.specs.declared.fault.LayoutFault.TheVariants.{SignedStub, SectionTwice, SbatDoesNotFit, NoHeaderSpace, AddressSpace, ImageTooLarge}
use Rattle.pe_builder.specs.Layout.{end_after, length_after, address_after, FitsPart}
use Rattle.pe_builder.specs.Replaced.{sbat_index, with_sbat_size, MayReplace}

-- a refusal where a test holds, else the rest
abbrev pub refuse : Bool → LayoutFault → Option LayoutFault → Option LayoutFault
refuse holds fault rest = if holds then Some fault else rest

-- the first of two refusals
abbrev pub or_else : Option LayoutFault → Option LayoutFault → Option LayoutFault
or_else None rest = rest
or_else (Some fault) rest = Some fault

-- whether a part has this name
abbrev pub part_is_named : List ℕ → PartSize → Bool
part_is_named name p = bytes_eq (name_bytes p.name) name

-- whether a section or an earlier part has the name of a part
abbrev pub is_taken : List Section → List PartSize → PartSize → Bool
is_taken sections earlier p =
    list_any (is_named (name_bytes p.name)) sections
    || list_any (part_is_named (name_bytes p.name)) earlier

-- the first part whose name is taken, after the earlier ones
unfoldable pub first_taken : List Section → List PartSize → List PartSize → Option LayoutFault
first_taken sections earlier [] = None
first_taken sections earlier (p ∷ parts) =
    if is_taken sections earlier p then Some (SectionTwice p.name) else first_taken sections (earlier ++ p ∷ []) parts

-- the bytes that a new `.sbat` may have: those of the old one's raw data
abbrev pub sbat_room : Headers → ℕ
sbat_room h = (section_at_index h.sections (sbat_index h)).raw_size

-- the refusal of a new `.sbat` that has more bytes than there is room for
abbrev pub sbat_refusal : Headers → Option ℕ → Option LayoutFault
sbat_refusal h None = None
sbat_refusal h (Some length) = refuse (nat_lt (sbat_room h) length) (SbatDoesNotFit length (sbat_room h)) None

-- the bytes that headers need
abbrev pub need : Headers → List PartSize → ℕ
need h parts = h.head.table_place + 40 * (h.head.section_count + length parts)

-- the bytes that headers have: up to SizeOfHeaders, and no more than 96 section headers
abbrev pub have : Headers → ℕ
have h = min h.head.header_size (h.head.table_place + 3840)

-- SizeOfImage of the image
abbrev pub image_size : Headers → List PartSize → ℕ
image_size h parts =
    next_multiple_of (address_after h.head (end_after h.head.header_size h.sections) parts) h.head.section_alignment

-- SizeOfInitializedData of the image
abbrev pub initialized_size : Headers → List PartSize → ℕ
initialized_size h parts = h.head.initialized_size + sum_by (λ p. p.length) parts

-- the first refusal that rests on sizes: of the headers, of addresses, of SizeOfInitializedData, of the file
unfoldable pub size_refusal : Headers → ℕ → List PartSize → Option LayoutFault
size_refusal h stub_length parts =
    refuse (nat_lt (have h) (need h parts)) (NoHeaderSpace (need h parts) (have h)) (
    refuse (nat_le 4294967296 (image_size h parts)) (AddressSpace (image_size h parts)) (
    refuse (nat_le 4294967296 (initialized_size h parts)) (AddressSpace (initialized_size h parts)) (
    refuse (nat_lt file_limit (length_after h.head stub_length parts))
    (ImageTooLarge (length_after h.head stub_length parts)) None)))

-- The first refusal for a stub of that length with these headers, parts of these sizes, and a new `.sbat` of that
-- length where the stub's is replaced in place.
unfoldable pub first_refusal : Headers → ℕ → List PartSize → Option ℕ → Option LayoutFault
first_refusal h stub_length parts sbat =
    refuse (not (h.head.certificate_size == 0)) SignedStub (
    or_else (first_taken h.sections [] parts) (
    or_else (sbat_refusal h sbat) (
    size_refusal (with_sbat_size h sbat) stub_length parts)))

-- A stub of that length with these headers has an image with parts of these sizes, and with a new `.sbat` of that
-- length in place where it is given: nothing is refused.
pub record IsBuildable (h : Headers) (stub_length : ℕ) (parts : List PartSize) (sbat : Option ℕ) : Type 0 where
  pub fit : AllByRecursion FitsPart parts
  pub may_replace : MayReplace h sbat
  pub not_refused : first_refusal h stub_length parts sbat ≡ None
