-- The printed values of PCR 11 are what a stub comes to that measures an image (systemd's TPM2 PCR document, PCR 11),
-- and what is printed as JSON is read as it is meant.
use Rattle.std.specs.Prelude.{◌≡◌, ℕ, true, List, Ok, map, All, IsUtf8}
use Rattle.boot_base.specs.Paths.{Path}
use Rattle.boot_machine.specs.Disk.{Files}
use Rattle.list_json.specs.Lines.{ReadsAs}
use Rattle.list_json.specs.Registers.{values_data}
use Rattle.list_json.specs.Sections.{sections_data}
use Rattle.pe_reader.specs.Grammar.{Headers}
use Rattle.image_commands.specs.Said.{inspect_result, measure_result, section_facts}
use Rattle.image_commands.specs.Told.{told_values}
use Rattle.command_plans.specs.Files.{bytes_at, each, image_at}
use Rattle.command_plans.specs.WordErrors.{path_in}
use Rattle.command_plans.specs.Choices.{banks_of, paths_of}
use Rattle.stub_replay.specs.Measured.{Shows, measured_names, predicted_pcr, stub_pcr}
use Rattle.stub_replay.specs.Ordered.{part_of}
use Rattle.tool_words.specs.declared.command.CalculateWords.{CalculateWords}
use Rattle.image_commands.specs.Calculating.{calculate_result, given_words, part_words, under_name}

-- A calculation has a part for each measured section, under the section's name, in the order of measurement.
abbrev pub PartsOfCalculations : Type 0
PartsOfCalculations = (words : CalculateWords) → map (λ part. part.0) (part_words words) ≡ measured_names

-- A calculation prints the values of every image that shows the bytes of the files which its words name.
abbrev pub ValuesOfCalculations : Type 0
ValuesOfCalculations = (view : Files) (words : CalculateWords)
    (paths : List (List ℕ × Path)) (parts : List (List ℕ × List ℕ)) (image : List ℕ) →
    each (under_name path_in) (given_words words) ≡ Ok paths →
    each (under_name (bytes_at view)) paths ≡ Ok parts →
    Shows image (part_of parts) →
    calculate_result view words
    ≡ Ok (told_values words.json (stub_pcr image) (banks_of words.banks) (paths_of words.phases))

-- What `ukify inspect --json` prints of an image is read as its sections (RFC 8259).
abbrev pub InspectionsReadBack : Type 0
InspectionsReadBack =
    (view : Files) (word text : List ℕ) (path : Path) (bytes : List ℕ) (headers : Headers)
    → path_in word ≡ Ok path
    → image_at view path ≡ Ok (bytes, headers)
    → inspect_result view word true ≡ Ok text
    → ReadsAs text (sections_data (map (section_facts bytes) headers.sections))

-- What `measure image --json` prints, given phases in UTF-8, is read as what a stub comes to that measures the image
-- (RFC 8259).
abbrev pub MeasurementsReadBack : Type 0
MeasurementsReadBack =
    (view : Files) (word text : List ℕ) (banks phases : List (List ℕ)) (path : Path) (bytes : List ℕ) (headers : Headers)
    → All IsUtf8 phases
    → path_in word ≡ Ok path
    → image_at view path ≡ Ok (bytes, headers)
    → measure_result view word banks phases true ≡ Ok text
    → ReadsAs text (values_data (stub_pcr bytes) (banks_of banks) (paths_of phases))

-- What `measure calculate --json` prints, given phases in UTF-8, is read as what is predicted of the parts (RFC 8259).
abbrev pub CalculationsReadBack : Type 0
CalculationsReadBack =
    (view : Files) (words : CalculateWords) (text : List ℕ)
    (paths : List (List ℕ × Path)) (parts : List (List ℕ × List ℕ))
    → words.json ≡ true
    → All IsUtf8 words.phases
    → each (under_name path_in) (given_words words) ≡ Ok paths
    → each (under_name (bytes_at view)) paths ≡ Ok parts
    → calculate_result view words ≡ Ok text
    → ReadsAs text (values_data (predicted_pcr (part_of parts)) (banks_of words.banks) (paths_of words.phases))
