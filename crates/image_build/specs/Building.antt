-- What the words of `ukify build` name, and the image of a stub and parts (ukify(1); UAPI Unified Kernel Image).
use Rattle.std.specs.Prelude.{◌≡◌, ℕ, ◌+◌, ◌==◌, Bool, not, List, [], ◌∷◌, ◌++◌, codes, length, map, filter, take, drop, position, nat_lt, Option, Some, None, option_and_then, Result, Ok, Err, if◌then◌else◌}
use Rattle.std.specs.Option.{option_map}
use Rattle.std.specs.FinMap.{insert}
use Rattle.std.specs.List.{flat_map}
use Rattle.std.specs.Fmt.{decimal}
use Rattle.boot_base.specs.Paths.{Path}
use Rattle.boot_base.specs.declared.refusal.Refusal.{Refusal}
use Rattle.boot_base.specs.declared.refusal.Refusal.TheVariants as refusals
use Rattle.boot_machine.specs.Disk.{Files}
use Rattle.pe_reader.specs.Grammar.{Headers, pe_of}
use Rattle.pe_reader.specs.LoadedBytes.{loaded_bytes}
use Rattle.uki_parts.specs.Cmdlines.{clean_cmdline}
use Rattle.uki_parts.specs.Initrds.{joined_bytes}
use Rattle.uki_parts.specs.Names.{name_bytes, padded_name, read_name}
use Rattle.uki_parts.specs.Sbat.{merged_sbat}
use Rattle.uki_parts.specs.declared.kind.PartKind.{PartKind}
use Rattle.uki_parts.specs.declared.kind.PartKind.TheVariants as kinds
use Rattle.uki_parts.specs.declared.name.SectionName.{SectionName}
use Rattle.pe_builder.specs.declared.fault.LayoutFault.{LayoutFault}
use Rattle.pe_builder.specs.declared.fault.LayoutFault.TheVariants as faults
use Rattle.pe_builder.specs.declared.size.PartSize.{PartSize}
use Rattle.pe_builder.specs.Image.{finished_image}
use Rattle.pe_builder.specs.Refusals.{first_refusal}
use Rattle.pe_builder.specs.Replaced.{sbat_index, sbat_name}
use Rattle.pe_builder.specs.Sizes.{part_flags}
use Rattle.tool_words.specs.declared.command.BuildWords.{BuildWords}
use Rattle.tool_words.specs.declared.command.Given.{Given}
use Rattle.tool_words.specs.declared.command.Given.TheVariants.{Inline, File}
use Rattle.tool_words.specs.Meaning.{inline_or_file}
use Rattle.command_plans.specs.Answers.{Answer, done_answer, refusal}
use Rattle.command_plans.specs.WordErrors.{◌>>=◌, path_in, printed_path}
use Rattle.image_build.specs.declared.source.Source.{Source}
use Rattle.image_build.specs.declared.source.PartSources.{PartSources}
use Rattle.image_build.specs.declared.source.BuildSources.{BuildSources}
use Rattle.image_build.specs.declared.source.Source.TheVariants as sources
use Rattle.command_plans.specs.Files.{bytes_at, each, headers_or, if_given}
use Rattle.boot_base.specs.Names.{shown_byte}
use Rattle.pcr_values.specs.ValueLines.{value_lines}
use Rattle.pcr_values.specs.Banks.{all_banks}
use Rattle.pcr_values.specs.Phases.{default_phase_paths}
use Rattle.stub_replay.specs.Measured.{stub_pcr}

-- the name that the text before the colon gives, or the refusal of the text
abbrev pub section_name : List ℕ → Option SectionName → Result SectionName Refusal
section_name text None = Err (refusals.BadSectionName text)
section_name text (Some name) = Ok name

-- what a value of `--section=` gives by the place of its first colon, or the refusal
abbrev pub section_cut : List ℕ → Option ℕ → Result (SectionName × Given) Refusal
section_cut value None = Err (refusals.BadSectionName value)
section_cut value (Some colon) =
    section_name (take colon value) (read_name (take colon value))
    >>= λ name. Ok (name, inline_or_file (drop (colon + 1) value))

-- A value of `--section=`: a section's name, and behind the first colon a text, or `@` and the path of a file. Without
-- a colon, or where no section has that name, it is refused.
abbrev pub section_of : List ℕ → Result (SectionName × Given) Refusal
section_of value = section_cut value (position (λ byte. byte == 58) value)

-- a part that is wanted: its name, and where its bytes come from, one behind the other
pub record WantedPart : Type 0 where
  pub kind : PartKind
  pub name : SectionName
  pub sources : List Given

-- a part of that name, where it has some source
abbrev pub optional_part : PartKind → List ℕ → List Given → List WantedPart
optional_part kind name [] = []
optional_part kind name (source ∷ more) = record { kind = kind; name = padded_name name; sources = source ∷ more } ∷ []

-- what was given, as a list
abbrev pub given_list : Option Given → List Given
given_list None = []
given_list (Some source) = source ∷ []

-- whitespace of a command line that is said is cleaned, a file is taken as it is
abbrev pub clean : Given → Given
clean (Inline text) = Inline (clean_cmdline text)
clean (File word) = File word

-- a section of the user's own
abbrev pub extra_part : SectionName × Given → WantedPart
extra_part section = record { kind = kinds.Extra; name = section.0; sources = section.1 ∷ [] }

-- the parts but for the SBAT text and the kernel, in append order
abbrev pub wanted_parts : BuildWords → List (SectionName × Given) → List WantedPart
wanted_parts words sections =
    optional_part kinds.Osrel (codes ".osrel") (given_list words.parts.osrel)
    ++ optional_part kinds.Cmdline (codes ".cmdline") (given_list (option_map clean words.parts.cmdline))
    ++ optional_part kinds.Dtb (codes ".dtb") (given_list words.parts.dtb)
    ++ optional_part kinds.Uname (codes ".uname") (given_list words.parts.uname)
    ++ optional_part kinds.Splash (codes ".splash") (given_list words.parts.splash)
    ++ optional_part kinds.Pcrpkey (codes ".pcrpkey") (given_list words.parts.pcrpkey)
    ++ optional_part kinds.Initrd (codes ".initrd") (map File words.initrds)
    ++ optional_part kinds.Ucode (codes ".ucode") (given_list words.parts.ucode)
    ++ map extra_part sections

-- where bytes come from: a text, or a file whose word is read as a path
abbrev pub source_of : Given → Result Source Refusal
source_of (Inline text) = Ok (sources.Said text)
source_of (File word) = path_in word >>= λ path. Ok (sources.At path)

-- a part whose files and texts are known
pub record NamedPart : Type 0 where
  pub kind : PartKind
  pub name : SectionName
  pub sources : List Source

-- a part by its kind, its name and its sources
abbrev pub named_part : PartKind → SectionName → List Source → NamedPart
named_part kind name sources = record { kind = kind; name = name; sources = sources }

-- a wanted part with the files and texts that it comes from, or the refusal of a word that is no path
abbrev pub sources_of : WantedPart → Result NamedPart Refusal
sources_of part = each source_of part.sources >>= λ found. Ok (named_part part.kind part.name found)

-- the parts that are there, and behind them those that are wanted
abbrev pub with_parts : List NamedPart → List WantedPart → Result (List NamedPart) Refusal
with_parts made wants = each sources_of wants >>= λ more. Ok (made ++ more)

-- the bytes of a source on a view
abbrev pub source_bytes : Files → Source → Result (List ℕ) Refusal
source_bytes view (sources.Said text) = Ok text
source_bytes view (sources.At path) = bytes_at view path

-- the bytes of a part: of several sources, which only initrds have, each is filled up to a multiple of four bytes
abbrev pub part_bytes : Files → NamedPart → Result (SectionName × List ℕ) Refusal
part_bytes view part = each (source_bytes view) part.sources >>= λ bytes. Ok (part.name, joined_bytes bytes)

-- what a builder's fault is told as; want of memory is no refusal, and an image that is too large is told by its path
abbrev pub builder_refusal : Path → LayoutFault → Option Refusal
builder_refusal output faults.SignedStub = Some refusals.SignedStub
builder_refusal output (faults.SectionTwice name) = Some (refusals.SectionTwice (flat_map shown_byte (name_bytes name)))
builder_refusal output (faults.SbatDoesNotFit length room) = Some (refusals.SbatDoesNotFit length room)
builder_refusal output (faults.NoHeaderSpace need have) = Some (refusals.NoHeaderSpace need have)
builder_refusal output (faults.AddressSpace end) = Some (refusals.AddressSpace end)
builder_refusal output (faults.ImageTooLarge size) = Some (refusals.TooLarge (printed_path output) size)
builder_refusal output faults.Memory = None

-- what is built, and where it is to stand
pub record BuiltImage : Type 0 where
  pub output : Path
  pub image : List ℕ

-- whether a part has bytes
abbrev pub has_bytes : SectionName × List ℕ → Bool
has_bytes part = not (length part.1 == 0)

-- what the builder knows of a part: its name, its length and its flags
abbrev pub size_of_part : SectionName × List ℕ → PartSize
size_of_part part = record { name = part.0; length = length part.1; flags = part_flags part.0 }

-- the refusal, or else the image of these parts and of a `.sbat` that takes the place of the stub's
abbrev pub image_or : Path → Headers → List ℕ → List (SectionName × List ℕ) → Option (List ℕ) → Option Refusal
    → Result BuiltImage Refusal
image_or output headers stub parts sbat (Some why) = Err why
image_or output headers stub parts sbat None =
    Ok (record {
      output = output;
      image = finished_image headers (map size_of_part parts)
          (map (λ part. part.1) parts) sbat stub;
    })

-- the image of these parts and of a `.sbat` that takes the place of the stub's, or the builder's first refusal
abbrev pub image_of_parts : Path → Headers → List ℕ → List (SectionName × List ℕ) → Option (List ℕ)
    → Result BuiltImage Refusal
image_of_parts output headers stub parts sbat =
    image_or output headers stub parts sbat
    (option_and_then (builder_refusal output)
    (first_refusal headers (length stub) (map size_of_part parts) (option_map length sbat)))

-- whether the stub has a `.sbat`, whose place a new one takes
abbrev pub has_sbat : Headers → Bool
has_sbat headers = nat_lt (sbat_index headers) (length headers.sections)

-- the image with an SBAT text that isn't empty: in the place of the stub's, or as a part before the kernel
abbrev pub with_sbat_text : Path → Headers → List ℕ → List (SectionName × List ℕ) → List ℕ → List ℕ
    → Result BuiltImage Refusal
with_sbat_text output headers stub parts kernel [] =
    image_of_parts output headers stub (filter has_bytes (parts ++ (padded_name (codes ".linux"), kernel) ∷ [])) None
with_sbat_text output headers stub parts kernel (byte ∷ text) =
    if has_sbat headers then image_of_parts output headers stub
    (filter has_bytes (parts ++ (padded_name (codes ".linux"), kernel) ∷ [])) (Some (byte ∷ text))
    else image_of_parts output headers stub (filter has_bytes
    (parts ++ (padded_name sbat_name, byte ∷ text) ∷ (padded_name (codes ".linux"), kernel) ∷ [])) None

-- what the words of a build name: the files, the texts, and where the image is to stand
pub record NamedFiles : Type 0 where
  pub stub : Path
  pub linux : Path
  pub parts : List NamedPart
  pub sbat : Option Source
  pub output : Path

-- The refusals of the words in their order: names of sections, and then words that are no paths, of the stub, the
-- kernel, the other parts in append order, and the output.
abbrev pub named_files : BuildWords → Result NamedFiles Refusal
named_files words =
    each section_of words.sections >>= λ sections.
    path_in words.stub >>= λ stub.
    path_in words.linux >>= λ linux.
    each sources_of (wanted_parts words sections) >>= λ parts.
    if_given source_of words.parts.sbat >>= λ sbat.
    path_in words.output >>= λ output.
    Ok (record { stub = stub; linux = linux; parts = parts; sbat = sbat; output = output })

-- the bytes of all these
pub record Contents : Type 0 where
  pub stub : List ℕ
  pub linux : List ℕ
  pub parts : List (SectionName × List ℕ)
  pub sbat : List ℕ

-- the text of `--sbat`, which is empty where it isn't given
abbrev pub given_sbat : Files → Option Source → Result (List ℕ) Refusal
given_sbat view None = Ok []
given_sbat view (Some source) = source_bytes view source

-- the refusals of the files in the same order: each that isn't there or is too large
abbrev pub contents_of : Files → NamedFiles → Result Contents Refusal
contents_of view named =
    bytes_at view named.stub >>= λ stub.
    bytes_at view named.linux >>= λ linux.
    each (part_bytes view) named.parts >>= λ parts.
    given_sbat view named.sbat >>= λ sbat.
    Ok (record { stub = stub; linux = linux; parts = parts; sbat = sbat })

-- the SBAT text of an image: the entries of the stub's section, the kernel's and the given text
abbrev pub sbat_of : Contents → List ℕ
sbat_of contents =
    merged_sbat (loaded_bytes contents.stub sbat_name) (loaded_bytes contents.linux sbat_name) contents.sbat

-- what an image is made of: the stub with its headers, the kernel, the other parts and the image's SBAT text
pub record Material : Type 0 where
  pub headers : Headers
  pub stub : List ℕ
  pub linux : List ℕ
  pub parts : List (SectionName × List ℕ)
  pub sbat : List ℕ

-- a stub that is no PE32+ file is refused
abbrev pub material : Contents → Result Material Refusal
material contents =
    headers_or (pe_of contents.stub) >>= λ headers.
    Ok (record {
      headers = headers;
      stub = contents.stub;
      linux = contents.linux;
      parts = contents.parts;
      sbat = sbat_of contents;
    })

-- what an image is made of on a view, or the first refusal
abbrev pub material_of : Files → NamedFiles → Result Material Refusal
material_of view named = contents_of view named >>= material

-- what was found in the words
abbrev pub part_named : PartSources → NamedPart
part_named part = named_part part.kind part.name part.sources.items

-- what was found in the words, by its paths, texts and names
abbrev pub named_as : BuildSources → NamedFiles
named_as found = record {
  stub = found.stub;
  linux = found.linux;
  parts = map part_named found.parts.items;
  sbat = found.sbat;
  output = found.output;
}

-- these are what some words name
abbrev pub AreNamed : BuildSources → Type 0
AreNamed found = (words : BuildWords) × (named_files words ≡ Ok (named_as found))

-- the image that is built of these, and where it is to stand
abbrev pub image_of : Path → Material → Result BuiltImage Refusal
image_of output m = with_sbat_text output m.headers m.stub m.parts m.linux m.sbat

-- what the words name is found and read, and the image is built of it
abbrev pub build_named : Files → NamedFiles → Result BuiltImage Refusal
build_named view named = material_of view named >>= image_of named.output

-- `ukify build`: what its words name is built
abbrev pub build_of : Files → BuildWords → Result BuiltImage Refusal
build_of view words = named_files words >>= build_named view

-- the path of the image and its number of bytes
abbrev pub built_line : Path → ℕ → List ℕ
built_line output size = codes "built " ++ (printed_path output ++ (codes ", " ++ (decimal size ++ codes " bytes\n")))

-- what a stub that measures an image comes to, in all banks and after the usual phase paths, where it is asked for
abbrev pub asked_values : Bool → List ℕ → List ℕ
asked_values measure image = if measure then value_lines (stub_pcr image) all_banks default_phase_paths else []

-- what is said of a finished image
abbrev pub built_text : Bool → BuiltImage → List ℕ
built_text measure built = built_line built.output (length built.image) ++ asked_values measure built.image

-- the image stands at its path afterwards
abbrev pub built_answer : Files → Bool → Result BuiltImage Refusal → Answer
built_answer view measure (Err why) = refusal view why
built_answer view measure (Ok built) = done_answer (insert view built.output built.image) (built_text measure built)

-- what `ukify build` answers
abbrev pub build_answer : Files → BuildWords → Answer
build_answer view words = built_answer view words.measure (build_of view words)
