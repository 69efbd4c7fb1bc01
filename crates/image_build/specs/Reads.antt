-- What was read of the files that the words of a build name.
use Rattle.std.specs.Prelude.{◌≡◌, ◌≤◌, ℕ, ◌+◌, ◌-◌, ◌*◌, ◌^◌, All, List, Option, Some, None, codes, length, map, min, sum_by}
use Rattle.boot_base.specs.Paths.{Path}
use Rattle.pe_reader.specs.Grammar.{pe_of}
use Rattle.pe_builder.specs.Replaced.{sbat_name}
use Rattle.std.specs.List.{AllZip}
use Rattle.pe_reader.specs.Reads.{ReadFrom, head_limit, headers_of}
use Rattle.stub_replay.specs.Measured.{named_raw_length}
use Rattle.uki_parts.specs.Names.{padded_name}
use Rattle.uki_parts.specs.Pieces.{HasSizes, Reading, bytes_of, total_length}
use Rattle.uki_parts.specs.declared.kind.PartKind.TheVariants as kinds
use Rattle.uki_parts.specs.declared.name.SectionName.{SectionName}
use Rattle.uki_parts.specs.declared.part.Part.{Part}
use Rattle.image_build.specs.declared.build_reads.BuildFiles.{BuildFiles}
use Rattle.image_build.specs.declared.build_reads.BuildParts.{BuildParts}
use Rattle.image_build.specs.declared.source.BuildSources.{BuildSources}
use Rattle.image_build.specs.declared.source.PartSources.{PartSources}
use Rattle.image_build.specs.declared.source.Source.{Source}
use Rattle.image_build.specs.declared.source.Source.TheVariants as sources
use Rattle.image_build.specs.Building.{Contents, Material, NamedFiles}
use Rattle.boot_base.specs.Limits.{file_limit}

-- a part that was read, by the bytes of the files that it names: its name, and what its pieces hold
abbrev pub part_as : Reading → Part → SectionName × List ℕ
part_as files part = (part.name, bytes_of files part.pieces.items)

-- all that an image is made of, by the bytes of the files that it names
abbrev pub material_as : Reading → BuildParts → Material
material_as files built = record {
  headers = headers_of built.head;
  stub = files built.stub;
  linux = bytes_of files built.linux.pieces.items;
  parts = map (part_as files) built.parts.items;
  sbat = built.sbat.items;
}

-- how many bytes come from a source at most
abbrev pub source_limit : Source → ℕ
source_limit (sources.Said text) = length text
source_limit (sources.At path) = file_limit

-- how many bytes come from several sources at most, each filled up to a multiple of four bytes
abbrev pub sources_limit : List Source → ℕ
sources_limit found = sum_by source_limit found + 3 * length found

-- a part is of the kind and the name that its sources have; its length is that of its pieces, which the sources bound
pub record PartFrom (from : PartSources) (part : Part) : Type 0 where
  pub kind : part.kind ≡ from.kind
  pub name : part.name ≡ from.name
  pub length_is : part.length ≡ min (total_length part.pieces.items) (2 ^ 64 - 1)
  pub limit : total_length part.pieces.items ≤ sources_limit from.sources.items

-- the files of a part have the sizes that its pieces say
abbrev pub PartHasSizes : Reading → Part → Type 0
PartHasSizes files part = HasSizes files part.pieces.items

-- what a build finds in the files that it reads, by their bytes
abbrev pub contents_as : Reading → BuildFiles → Contents
contents_as files found = record {
  stub = files found.stub;
  linux = files found.linux;
  parts = map (part_as files) found.parts.items;
  sbat = found.sbat.items;
}

-- what was found is that of these words, whatever the machine, and the stub and the kernel aren't too large
pub record FilesFrom (from : BuildSources) (found : BuildFiles) : Type 0 where
  pub stub : found.stub ≡ from.stub
  pub linux : found.linux ≡ from.linux
  pub output : found.output ≡ from.output
  pub stub_small : found.stub_length ≤ file_limit
  pub linux_small : found.linux_length ≤ file_limit
  pub parts : AllZip PartFrom from.parts.items found.parts.items

-- the files have the sizes that were found
pub record FilesHaveSizes (files : Reading) (found : BuildFiles) : Type 0 where
  pub stub : length (files found.stub) ≡ found.stub_length
  pub linux : length (files found.linux) ≡ found.linux_length
  pub parts : All (PartHasSizes files) found.parts.items

-- a part is a kernel of at most as many bytes as are read
pub record IsKernel (part : Part) : Type 0 where
  pub kind : part.kind ≡ kinds.Linux
  pub name : part.name ≡ padded_name (codes ".linux")
  pub small : part.length ≤ file_limit
  pub length_is : part.length ≡ total_length part.pieces.items

-- what was read of what the words name, whatever the machine
pub record BuiltFrom (from : BuildSources) (built : BuildParts) : Type 0 where
  pub stub : built.stub ≡ from.stub
  pub output : built.output ≡ from.output
  pub stub_small : built.stub_length ≤ file_limit
  pub head : ReadFrom built.head built.stub_length
  pub linux : IsKernel built.linux
  pub parts : AllZip PartFrom from.parts.items built.parts.items

-- the files have the sizes that were read
pub record BuiltHasSizes (files : Reading) (built : BuildParts) : Type 0 where
  pub stub : length (files built.stub) ≡ built.stub_length
  pub linux : PartHasSizes files built.linux
  pub parts : All (PartHasSizes files) built.parts.items

-- how many bytes the file of a source has, if it is one
abbrev pub source_file_length : Reading → Option Source → ℕ
source_file_length files None = 0
source_file_length files (Some (sources.Said text)) = 0
source_file_length files (Some (sources.At path)) = length (files path)

-- how many bytes the file at a path has loaded of its `.sbat`, without the zeros behind them
abbrev pub loaded_sbat_length : Reading → Path → ℕ
loaded_sbat_length files path = named_raw_length sbat_name (pe_of (files path))

-- How many bytes of files are read before an image is planned, at most: the file of `--sbat`, and of the stub and the
-- kernel the headers, which are at most 69,463 bytes, and the raw data that they have loaded of `.sbat`.
abbrev pub reading_length : Reading → NamedFiles → ℕ
reading_length files named =
    source_file_length files named.sbat
    + (head_limit + loaded_sbat_length files named.stub)
    + (head_limit + loaded_sbat_length files named.linux)
