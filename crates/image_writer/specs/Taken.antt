-- How many bytes of files are read to write an image.
use Rattle.std.specs.Prelude.{ℕ, ◌+◌, ◌*◌, ◌-◌, List, sum_by}
use Rattle.uki_parts.specs.declared.part.Part.{Part}
use Rattle.uki_parts.specs.Pieces.{file_length}
use Rattle.pe_builder.specs.declared.plan.ImageLayout.{ImageLayout}
use Rattle.pe_builder.specs.Known.{planned_stub_length, planned_before, planned_after, planned_sbat}
use Rattle.image_writer.specs.declared.chunk.Chunk.{Chunk}
use Rattle.image_writer.specs.declared.chunk.Chunk.TheVariants as chunks
use Rattle.image_writer.specs.declared.sources.Sources.{Sources}
use Rattle.image_writer.specs.Chunks.{number_chunks, table_chunks, rest_chunks}
use Rattle.image_writer.specs.Sourced.{part_list}

-- how many bytes of the stub's file a chunk has; numbers, names, texts and zeros have none
abbrev pub chunk_length : Chunk → ℕ
chunk_length (chunks.Stub from to) = to - from
chunk_length (chunks.Name name) = 0
chunk_length (chunks.Short value) = 0
chunk_length (chunks.Long value) = 0
chunk_length chunks.Sbat = 0
chunk_length (chunks.Zeros count) = 0

-- how many bytes of the stub's file several chunks have
abbrev pub chunks_length : List Chunk → ℕ
chunks_length cs = sum_by chunk_length cs

-- how many bytes of the stub's file stand in its place, none of them in the headers of new sections
abbrev pub kept_length : ImageLayout → ℕ
kept_length plan =
    chunks_length (number_chunks (planned_before plan) (planned_after plan))
    + (chunks_length (table_chunks (planned_before plan) (planned_sbat plan))
    + chunks_length (rest_chunks ((planned_before plan).table_place + 40 * (planned_after plan).section_count)
    (planned_stub_length plan) (planned_sbat plan)))

-- how many bytes of files the pieces of a part have
abbrev pub part_reading : Part → ℕ
part_reading part = sum_by file_length part.pieces.items

-- how many bytes of files are read to write the image by a plan of these sources, at most: the stub's and those of each
-- part, each once
abbrev pub writing_length : ImageLayout → Sources → ℕ
writing_length plan sources = planned_stub_length plan + sum_by part_reading (part_list sources)
