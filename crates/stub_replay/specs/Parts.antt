-- What is measured of parts.
use Rattle.std.specs.Prelude.{ℕ, ◌+◌, ◌^◌, ◌<◌, ◌≤◌, List, [], ◌∷◌, Option, Some, None, drop, length, sum_by}
use Rattle.std.specs.Borrow.{Bor}
use Rattle.std.specs.List.{All, flat_map}
use Rattle.pe_reader.specs.LoadedBytes.{bytes_in}
use Rattle.uki_parts.specs.Pieces.{Reading, HasSizes, total_length, bytes_of, file_length}
use Rattle.stub_replay.specs.Measured.{section_items}
use Rattle.stub_replay.specs.declared.measurable.Content.{Content}
use Rattle.stub_replay.specs.declared.measurable.Content.TheVariants as contents
use Rattle.stub_replay.specs.declared.measurable.Measurable.{Measurable}

-- the bytes of a content
abbrev pub content_bytes : Reading → Content → List ℕ
content_bytes files (contents.Pieces pieces) = bytes_of files pieces.now
content_bytes files (contents.Bytes bytes) = bytes.now
content_bytes files (contents.Loaded path range) = bytes_in (files path.now) range

-- how many bytes a content has, by the sizes that it says
abbrev pub content_length : Content → ℕ
content_length (contents.Pieces pieces) = total_length pieces.now
content_length (contents.Bytes bytes) = length bytes.now
content_length (contents.Loaded path range) = range.length + range.zeros

-- the bytes of a content, none where it isn't given
abbrev pub content_or : Reading → Option Content → List ℕ
content_or files None = []
content_or files (Some content) = content_bytes files content

-- the part of a name, if its content is given
abbrev pub given_part : Bor (List ℕ) → Option Content → List Measurable
given_part name None = []
given_part name (Some content) = record { name = name; content = content } ∷ []

-- a loaded range is one that a section of 32-bit numbers says
abbrev pub IsPlaced : Content → Type 0
IsPlaced (contents.Pieces pieces) = Unit {0}
IsPlaced (contents.Bytes bytes) = Unit {0}
IsPlaced (contents.Loaded path range) = (range.place < 2 ^ 32) × (range.length + range.zeros < 2 ^ 32)

-- The content is whole in these files: each file has the size that its piece says, and a loaded range lies in its file.
abbrev pub IsWhole : Reading → Content → Type 0
IsWhole files (contents.Pieces pieces) = HasSizes files pieces.now
IsWhole files (contents.Bytes bytes) = Unit {0}
IsWhole files (contents.Loaded path range) = range.length ≤ length (drop range.place (files path.now))

-- the name of a part, and its bytes
abbrev pub named_bytes : Reading → Measurable → List ℕ × List ℕ
named_bytes files part = (part.name.now, content_bytes files part.content)

-- what is measured of parts that have these names and bytes
abbrev pub items_of : List (List ℕ × List ℕ) → List (List ℕ)
items_of parts = flat_map (λ part. section_items part.0 part.1) parts

-- each part is whole in these files
abbrev pub HaveSizes : Reading → List Measurable → Type 0
HaveSizes files parts = All (λ part. IsWhole files part.content) parts

-- how many bytes of files a content stands for
abbrev pub read_length : Content → ℕ
read_length (contents.Pieces pieces) = sum_by file_length pieces.now
read_length (contents.Bytes bytes) = 0
read_length (contents.Loaded path range) = range.length

-- how many bytes of files the parts stand for, by the sizes that they say
abbrev pub files_length : List Measurable → ℕ
files_length parts = sum_by (λ part. read_length part.content) parts
