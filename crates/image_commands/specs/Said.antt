-- What the commands say that only read images.
use Rattle.std.specs.Prelude.{ℕ, ◌&&◌, ◌==◌, Bool, not, List, codes, length, map, Result, Ok, Err, if◌then◌else◌}
use Rattle.boot_base.specs.Paths.{Path}
use Rattle.boot_base.specs.declared.refusal.Refusal.{Refusal}
use Rattle.boot_machine.specs.Disk.{Files}
use Rattle.list_json.specs.Sections.{SectionFacts}
use Rattle.image_commands.specs.Told.{told_sections, told_values}
use Rattle.pcr_values.specs.declared.bank.Bank.TheVariants as banks
use Rattle.pcr_values.specs.Banks.{digest_of}
use Rattle.pe_reader.specs.declared.fault.FailedCheck.{FailedCheck}
use Rattle.pe_reader.specs.declared.section.Section.{Section}
use Rattle.pe_reader.specs.Grammar.{Headers, pe_of}
use Rattle.boot_base.specs.Names.{short_name}
use Rattle.pe_reader.specs.LoadedBytes.{loaded_bytes, loaded_by}
use Rattle.stub_replay.specs.Measured.{stub_pcr}
use Rattle.command_plans.specs.WordErrors.{◌>>=◌, path_in}
use Rattle.command_plans.specs.Files.{bytes_at, image_at}
use Rattle.command_plans.specs.Choices.{banks_of, paths_of}

-- what is told of a section of a file: its name up to a NUL, and the number and the SHA-256 digest of its loaded bytes
abbrev pub section_facts : List ℕ → Section → SectionFacts
section_facts bytes s = record {
  name = short_name s.name;
  size = length (loaded_by bytes s);
  digest = digest_of banks.Sha256 (loaded_by bytes s);
}

-- `ukify inspect`: the sections of an image in the table's order, in lines or as JSON
abbrev pub inspection : Bool → Path → List ℕ → Headers → List ℕ
inspection json path bytes headers = told_sections json path (map (section_facts bytes) headers.sections)

-- what `ukify inspect` says of the image at a path, or the refusal
abbrev pub inspection_at : Files → Bool → Path → Result (List ℕ) Refusal
inspection_at view json path = image_at view path >>= λ image. Ok (inspection json path image.0 image.1)

-- what `ukify inspect` says by its words, or the first refusal
abbrev pub inspect_result : Files → List ℕ → Bool → Result (List ℕ) Refusal
inspect_result view file json = path_in file >>= inspection_at view json

-- whether the first section of a name has loaded bytes
abbrev pub has_loaded : List ℕ → List ℕ → Bool
has_loaded bytes name = not (length (loaded_bytes bytes name) == 0)

-- `bootctl kernel-identify`: a unified image has loaded bytes of a kernel and of an os-release text
abbrev pub kind_of : List ℕ → Result Headers FailedCheck → List ℕ
kind_of bytes (Ok headers) =
    if has_loaded bytes (codes ".linux") && has_loaded bytes (codes ".osrel") then codes "uki\n" else codes "pe\n"
kind_of bytes (Err check) = codes "unknown\n"

-- what `bootctl kernel-identify` says of the file at a path, or the refusal
abbrev pub kind_at : Files → Path → Result (List ℕ) Refusal
kind_at view path = bytes_at view path >>= λ bytes. Ok (kind_of bytes (pe_of bytes))

-- what `bootctl kernel-identify` says by its word, or the refusal
abbrev pub identify_result : Files → List ℕ → Result (List ℕ) Refusal
identify_result view file = path_in file >>= kind_at view

-- `measure image`: what a stub that measures the image comes to, in each bank and after each phase path
abbrev pub values_at : Files → List (List ℕ) → List (List ℕ) → Bool → Path → Result (List ℕ) Refusal
values_at view bank_names phase_texts json path =
    image_at view path >>= λ image.
    Ok (told_values json (stub_pcr image.0) (banks_of bank_names) (paths_of phase_texts))

-- what `measure image` says by its words, or the first refusal
abbrev pub measure_result : Files → List ℕ → List (List ℕ) → List (List ℕ) → Bool → Result (List ℕ) Refusal
measure_result view file bank_names phase_texts json = path_in file >>= values_at view bank_names phase_texts json
