-- The bytes of an image.
use Rattle.std.specs.Prelude.{ℕ, ◌+◌, ◌*◌, List, [], ◌∷◌, ◌++◌, length, replicate, option_map, Option, Some, None, if◌then◌else◌}
use Rattle.std.specs.List.{flat_map, fold}
use Rattle.std.specs.Str.{bytes_eq}
use Rattle.byteorder.specs.Endian.{little_bytes}
use Rattle.pe_reader.specs.declared.head.Head.{Head}
use Rattle.pe_reader.specs.declared.section.Section.{Section}
use Rattle.pe_reader.specs.Grammar.{Headers}
use Rattle.pe_reader.specs.LoadedBytes.{loaded_by}
use Rattle.uki_parts.specs.Names.{name_bytes}
use Rattle.pe_builder.specs.declared.size.PartSize.{PartSize}
use Rattle.pe_builder.specs.Puts.{put, pad_to}
use Rattle.pe_builder.specs.Layout.{head_with, headers_with, new_sections}
use Rattle.pe_builder.specs.Replaced.{with_sbat_size, with_sbat}

-- the 40 bytes of a section header: relocations and line numbers are 0
unfoldable pub section_header : Section → List ℕ
section_header s =
    s.name ++ little_bytes 4 s.virtual_size ++ little_bytes 4 s.virtual_address ++ little_bytes 4 s.raw_size
    ++ little_bytes 4 s.raw_place ++ replicate 12 0 ++ little_bytes 4 s.flags

-- The stub with NumberOfSections, SizeOfInitializedData and SizeOfImage of a head, with no CheckSum, and with section
-- headers behind its own.
abbrev pub with_fields : Head → Head → List ℕ → List ℕ → List ℕ
with_fields before after headers stub =
    put (before.pe_place + 6) (little_bytes 2 after.section_count) (
    put (before.pe_place + 24 + 8) (little_bytes 4 after.initialized_size) (
    put (before.pe_place + 24 + 56) (little_bytes 4 after.image_size) (
    put (before.pe_place + 24 + 64) (little_bytes 4 0) (
    put (before.table_place + 40 * before.section_count) headers stub))))

-- the stub with the header fields of an image with these new sections
unfoldable pub with_headers : Headers → List Section → List ℕ → List ℕ
with_headers h new stub = with_fields h.head (head_with h new) (flat_map section_header new) stub

-- the bytes with the raw data of a section behind them
abbrev pub add_raw : ℕ → List ℕ → List ℕ → List ℕ
add_raw unit bytes content = pad_to unit bytes ++ pad_to unit content

-- the bytes with the raw data of sections behind them
unfoldable pub with_raw : ℕ → List ℕ → List (List ℕ) → List ℕ
with_raw unit bytes contents = fold (add_raw unit) bytes contents

-- the image of a stub and parts
abbrev pub image_with_parts : Headers → List PartSize → List (List ℕ) → List ℕ → List ℕ
image_with_parts h parts contents stub =
    with_raw h.head.file_alignment (with_headers h (new_sections h (length stub) parts) stub) contents

-- the finished image of a stub, parts, and a new `.sbat` where the stub's is replaced in place
abbrev pub finished_image : Headers → List PartSize → List (List ℕ) → Option (List ℕ) → List ℕ → List ℕ
finished_image h parts contents sbat stub =
    image_with_parts (with_sbat_size h (option_map length sbat)) parts contents (with_sbat h sbat stub)

-- its headers
abbrev pub finished_headers : Headers → ℕ → List PartSize → Option ℕ → Headers
finished_headers h stub_length parts sbat =
    headers_with (with_sbat_size h sbat) (new_sections (with_sbat_size h sbat) stub_length parts)

-- the content of the first part of a name, nothing where there is no such part
unfoldable pub content_named : List ℕ → List PartSize → List (List ℕ) → List ℕ
content_named name [] contents = []
content_named name (p ∷ parts) [] = []
content_named name (p ∷ parts) (content ∷ contents) =
    if bytes_eq (name_bytes p.name) name then content else content_named name parts contents

-- what the image of a stub and parts has loaded of a name: the stub's section, or else the part
unfoldable pub loaded_or_part : List ℕ → Option Section → List ℕ → List ℕ
loaded_or_part stub None content = content
loaded_or_part stub (Some s) content = loaded_by stub s
