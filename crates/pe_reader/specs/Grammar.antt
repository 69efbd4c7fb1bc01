-- Which bytes are a PE32+ file (Microsoft PE/COFF): the checks in their order, each with its reason and its place.
-- They look at the file's size and at the bytes of the headers alone.
use Rattle.std.specs.Prelude.{ℕ, zero, suc, ◌+◌, ◌*◌, Bool, ◌&&◌, ◌||◌, ◌==◌, nat_le, List, [], ◌∷◌, ◌++◌, length, take, drop, Result, Ok, Err, if◌then◌else◌}
use Rattle.std.specs.List.{list_all}
use Rattle.std.specs.Int.{is_power_of_two}
use Rattle.pe_reader.specs.declared.reason.PeReason.{PeReason}
use Rattle.pe_reader.specs.declared.reason.PeReason.TheVariants.{ShortFile, NoMz, PePlace, ShortHeaders, NoSignature, TooManySections, ShortOptional, Pe32, UnknownMagic, SectionAlignment, FileAlignment, Directories, HeaderSize, VirtualSize, Address, RawData, Overlap}
use Rattle.pe_reader.specs.declared.fault.FailedCheck.{FailedCheck}
use Rattle.pe_reader.specs.declared.head.Head.{Head}
use Rattle.pe_reader.specs.declared.head.Coff.{Coff}
use Rattle.pe_reader.specs.declared.section.Section.{Section}
use Rattle.pe_reader.specs.Fields.{u16_at, u32_at, part}

-- what has to hold before the rest is looked at
abbrev pub check_before : {A : Type 0} → Bool → PeReason → ℕ → Result A FailedCheck → Result A FailedCheck
check_before holds reason offset rest = if holds then rest else Err (record { reason = reason; offset = offset })

-- the most sections of a file
abbrev pub section_limit : ℕ
section_limit = 96

-- The file's size and its first 64 bytes give the place of the PE header.
unfoldable pub pe_place_of : ℕ → List ℕ → Result ℕ FailedCheck
pe_place_of size front =
    check_before (nat_le 64 size) ShortFile size (
    check_before (u16_at front 0 == 0x5A4D) NoMz 0 (
    check_before (nat_le 64 (u32_at front 60)) PePlace 60 (
    Ok (u32_at front 60))))

-- The 24 bytes at that place are the signature and the COFF header.
unfoldable pub coff_of : ℕ → ℕ → List ℕ → Result Coff FailedCheck
coff_of size place header =
    check_before (nat_le (place + 24) size) ShortHeaders size (
    check_before (u32_at header 0 == 0x4550) NoSignature place (
    check_before (nat_le (u16_at header 6) section_limit) TooManySections (place + 6) (
    check_before (nat_le 112 (u16_at header 20)) ShortOptional (place + 20) (
    check_before (nat_le (place + 24 + u16_at header 20) size) ShortHeaders size (
    Ok (record { section_count = u16_at header 6; optional_size = u16_at header 20 }))))))

-- whether a number may be an alignment: a power of two, up to a greatest one
abbrev pub is_alignment : ℕ → ℕ → Bool
is_alignment greatest n = is_power_of_two n && nat_le n greatest

-- what is wrong with the magic of an optional header that isn't that of PE32+
abbrev pub other_kind : ℕ → PeReason
other_kind magic = if magic == 0x10B then Pe32 else UnknownMagic

-- The optional header is as many bytes as the COFF header says, right after it.
unfoldable pub optional_of : ℕ → ℕ → Coff → List ℕ → Result Head FailedCheck
optional_of size place coff optional =
    let start = place + 24 in
    let table = start + coff.optional_size in
    let table_end = table + 40 * coff.section_count in
    let directories = u32_at optional 108 in
    let header_size = u32_at optional 60 in
    check_before (u16_at optional 0 == 0x20B) (other_kind (u16_at optional 0)) start (
    check_before (is_alignment 65536 (u32_at optional 32)) SectionAlignment (start + 32) (
    check_before (is_alignment (u32_at optional 32) (u32_at optional 36)) FileAlignment (start + 36) (
    check_before (nat_le (112 + 8 * directories) coff.optional_size) Directories (start + 108) (
    check_before (nat_le table_end size) ShortHeaders size (
    check_before (nat_le table_end header_size && nat_le header_size size) HeaderSize (start + 60) (
    Ok (record {
      pe_place = place;
      section_count = coff.section_count;
      optional_size = coff.optional_size;
      initialized_size = u32_at optional 8;
      section_alignment = u32_at optional 32;
      file_alignment = u32_at optional 36;
      image_size = u32_at optional 56;
      header_size = header_size;
      directory_count = directories;
      certificate_size = (if nat_le 5 directories then u32_at optional 148 else 0);
      table_place = table;
    })))))))

-- whether the raw ranges of two sections don't meet
abbrev pub is_apart : Section → Section → Bool
is_apart a b =
    a.raw_size == 0 || b.raw_size == 0 || nat_le (a.raw_place + a.raw_size) b.raw_place
    || nat_le (b.raw_place + b.raw_size) a.raw_place

-- whether a section's raw range lies between the headers and the end of the file
abbrev pub is_in_file : ℕ → ℕ → Section → Bool
is_in_file size header_size s =
    s.raw_size == 0 || (nat_le header_size s.raw_place && nat_le (s.raw_place + s.raw_size) size)

-- the fields of a section header, which has 40 bytes
unfoldable pub section_at : List ℕ → Section
section_at header = record {
  name = take 8 header;
  virtual_size = u32_at header 8;
  virtual_address = u32_at header 12;
  raw_size = u32_at header 16;
  raw_place = u32_at header 20;
  flags = u32_at header 36;
}

-- A section whose header stands at a place lies within the file, apart from the earlier ones.
unfoldable pub check_section : ℕ → ℕ → List Section → ℕ → Section → Result Section FailedCheck
check_section size header_size earlier place s =
    check_before (nat_le s.virtual_size 268435456) VirtualSize (place + 8) (
    check_before (nat_le (s.virtual_address + s.virtual_size) 4294967296) Address (place + 12) (
    check_before (is_in_file size header_size s) RawData (place + 20) (
    check_before (list_all (is_apart s) earlier) Overlap (place + 20) (
    Ok s))))

infixl 10 ◌>>=◌
abbrev pub ◌>>=◌ : {A B : Type 0} → Result A FailedCheck → (A → Result B FailedCheck) → Result B FailedCheck
(Ok x) >>= f = f x
(Err e) >>= f = Err e

-- So many section headers from a place on, each of 40 bytes, after the earlier ones.
unfoldable pub sections_of : ℕ → ℕ → ℕ → ℕ → List Section → List ℕ → Result (List Section) FailedCheck
sections_of size header_size zero place earlier table = Ok earlier
sections_of size header_size (suc count) place earlier table = do
  s ← check_section size header_size earlier place (section_at table)
  sections_of size header_size count (place + 40) (earlier ++ s ∷ []) (drop 40 table)

-- what the headers of a file say
pub record Headers : Type 0 where
  pub head : Head
  pub sections : List Section

-- What the headers before the section table say.
unfoldable pub head_of : List ℕ → Result Head FailedCheck
head_of bytes = do
  place ← pe_place_of (length bytes) (part bytes 0 64)
  coff ← coff_of (length bytes) place (part bytes place 24)
  optional_of (length bytes) place coff (part bytes (place + 24) coff.optional_size)

-- The bytes are a PE32+ file with these headers, or this is the first check that fails.
unfoldable pub pe_of : List ℕ → Result Headers FailedCheck
pe_of bytes = do
  head ← head_of bytes
  sections ← sections_of (length bytes) head.header_size head.section_count head.table_place []
      (part bytes head.table_place (40 * head.section_count))
  Ok (record { head = head; sections = sections })
