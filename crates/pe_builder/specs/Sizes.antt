-- What the builder takes of a part.
use Rattle.std.specs.Prelude.{ℕ, bytes_eq, codes, if◌then◌else◌}
use Rattle.uki_parts.specs.declared.name.SectionName.{SectionName}
use Rattle.uki_parts.specs.declared.part.Part.{Part}
use Rattle.uki_parts.specs.Names.{name_bytes}
use Rattle.pe_builder.specs.declared.size.PartSize.{PartSize}

-- the most parts of an image, so that no sum of their sizes needs more than 64 bits
abbrev pub part_limit : ℕ
part_limit = 16777216

-- The Characteristics of a part's section: of the kernel, code that is read, else initialized data that are read
-- (Microsoft PE/COFF; as ukify has them).
abbrev pub part_flags : SectionName → ℕ
part_flags name = if bytes_eq (name_bytes name) (codes ".linux") then 0x40000020 else 0x40000040

-- the size of a part
abbrev pub size_of : Part → PartSize
size_of part = record { name = part.name; length = part.length; flags = part_flags part.name }
