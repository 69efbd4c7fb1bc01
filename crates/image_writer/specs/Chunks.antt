-- The chunks of an image.
use Rattle.std.specs.Prelude.{◌≡◌, ℕ, ◌+◌, ◌*◌, ◌-◌, ◌%◌, false, List, [], ◌∷◌, ◌++◌, replicate, Option, Some, None}
use Rattle.std.specs.List.{flat_map}
use Rattle.boot_base.specs.Paths.{Path, is_temp}
use Rattle.boot_machine.specs.Disk.{Files}
use Rattle.boot_machine.specs.Reading.{bytes_between}
use Rattle.boot_machine.specs.Rows.{contents}
use Rattle.byteorder.specs.Endian.{little_bytes}
use Rattle.pe_reader.specs.declared.head.Head.{Head}
use Rattle.pe_reader.specs.declared.section.Section.{Section}
use Rattle.uki_parts.specs.declared.part.Part.{Part}
use Rattle.uki_parts.specs.declared.piece.Piece.{Piece}
use Rattle.uki_parts.specs.declared.piece.Piece.TheVariants as pieces
use Rattle.uki_parts.specs.Pieces.{Reading}
use Rattle.pe_builder.specs.declared.plan.ImageLayout.{ImageLayout}
use Rattle.pe_builder.specs.declared.plan.SbatPlace.{SbatPlace}
use Rattle.pe_builder.specs.Known.{planned_stub_length, planned_before, planned_after, planned_sections, planned_sbat}
use Rattle.image_writer.specs.declared.chunk.Chunk.{Chunk}
use Rattle.image_writer.specs.declared.chunk.Chunk.TheVariants as chunks

-- the bytes that a chunk stands for, with those of the stub and of the new `.sbat`
abbrev pub chunk_bytes : List ℕ → List ℕ → Chunk → List ℕ
chunk_bytes stub sbat (chunks.Stub from to) = bytes_between stub from to
chunk_bytes stub sbat (chunks.Name name) = name
chunk_bytes stub sbat (chunks.Short value) = little_bytes 2 value
chunk_bytes stub sbat (chunks.Long value) = little_bytes 4 value
chunk_bytes stub sbat chunks.Sbat = sbat
chunk_bytes stub sbat (chunks.Zeros count) = replicate count 0

-- the bytes of chunks, one behind the other
abbrev pub chunks_bytes : List ℕ → List ℕ → List Chunk → List ℕ
chunks_bytes stub sbat cs = flat_map (chunk_bytes stub sbat) cs

-- up to the CheckSum: NumberOfSections, SizeOfInitializedData, SizeOfImage and CheckSum are new
abbrev pub number_chunks : Head → Head → List Chunk
number_chunks before after =
    chunks.Stub 0 (before.pe_place + 6) ∷ chunks.Short after.section_count
    ∷ chunks.Stub (before.pe_place + 8) (before.pe_place + 24 + 8) ∷ chunks.Long after.initialized_size
    ∷ chunks.Stub (before.pe_place + 24 + 12) (before.pe_place + 24 + 56) ∷ chunks.Long after.image_size
    ∷ chunks.Stub (before.pe_place + 24 + 60) (before.pe_place + 24 + 64) ∷ chunks.Long 0
    ∷ []

-- where the stub's section table ends
abbrev pub table_end : Head → ℕ
table_end head = head.table_place + 40 * head.section_count

-- from there up to the end of the stub's section table: the VirtualSize of a replaced `.sbat` is new
abbrev pub table_chunks : Head → Option SbatPlace → List Chunk
table_chunks before None =
    chunks.Stub (before.pe_place + 24 + 68) (table_end before) ∷ chunks.Zeros 0 ∷ chunks.Zeros 0 ∷ []
table_chunks before (Some place) =
    chunks.Stub (before.pe_place + 24 + 68) place.size_place ∷ chunks.Long place.length
    ∷ chunks.Stub (place.size_place + 4) (table_end before) ∷ []

-- the header of a new section
abbrev pub section_chunks : Section → List Chunk
section_chunks s =
    chunks.Name s.name ∷ chunks.Long s.virtual_size ∷ chunks.Long s.virtual_address ∷ chunks.Long s.raw_size
    ∷ chunks.Long s.raw_place ∷ chunks.Zeros 12 ∷ chunks.Long s.flags ∷ []

-- from the end of the image's section table up to that of a stub of so many bytes: the raw data of a replaced `.sbat`
-- are new
abbrev pub rest_chunks : ℕ → ℕ → Option SbatPlace → List Chunk
rest_chunks from to None = chunks.Stub from to ∷ chunks.Zeros 0 ∷ chunks.Zeros 0 ∷ chunks.Zeros 0 ∷ []
rest_chunks from to (Some place) =
    chunks.Stub from place.raw_place ∷ chunks.Sbat ∷ chunks.Zeros (place.raw_size - place.length)
    ∷ chunks.Stub (place.raw_place + place.raw_size) to ∷ []

-- the bytes of the headers of sections
abbrev pub headers_bytes : List ℕ → List ℕ → List Section → List ℕ
headers_bytes stub sbat sections = flat_map (λ s. chunks_bytes stub sbat (section_chunks s)) sections

-- what stands in the place of the stub
abbrev pub new_stub_bytes : ImageLayout → List ℕ → List ℕ → List ℕ
new_stub_bytes plan stub sbat =
    chunks_bytes stub sbat (number_chunks (planned_before plan) (planned_after plan))
    ++ chunks_bytes stub sbat (table_chunks (planned_before plan) (planned_sbat plan))
    ++ headers_bytes stub sbat (planned_sections plan)
    ++ chunks_bytes stub sbat
    (rest_chunks ((planned_before plan).table_place + 40 * (planned_after plan).section_count)
    (planned_stub_length plan) (planned_sbat plan))

-- the bytes that a piece gives, as many as it says
abbrev pub given_bytes : Reading → Piece → List ℕ
given_bytes files (pieces.Bytes bytes) = bytes
given_bytes files (pieces.File path size) = bytes_between (files path) 0 size
given_bytes files (pieces.Zeros count) = replicate count 0

-- how many zeros fill up so many bytes to a multiple of a number, none where that is 0
abbrev pub gap : ℕ → ℕ → ℕ
gap unit count = (unit - count % unit) % unit

-- the bytes that a part gives, filled up
abbrev pub padded_part : Reading → ℕ → Part → List ℕ
padded_part files unit part = flat_map (given_bytes files) part.pieces.items ++ replicate (gap unit part.length) 0

-- parts behind a stub of so many bytes, which is filled up where there are some
abbrev pub behind_stub : Reading → ℕ → ℕ → List Part → List ℕ
behind_stub files unit stub_length [] = []
behind_stub files unit stub_length (part ∷ parts) =
    replicate (gap unit stub_length) 0 ++ flat_map (padded_part files unit) (part ∷ parts)

-- the bytes of boot files
abbrev pub Agrees : Reading → Files → Type 0
Agrees reading files = (path : Path) → is_temp path ≡ false → reading path ≡ contents files path
