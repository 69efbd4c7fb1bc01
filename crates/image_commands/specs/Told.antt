-- Sections and values of PCR 11 as they are told: in lines, or as JSON.
use Rattle.std.specs.Prelude.{ℕ, Bool, true, false, List, ◌++◌, codes, length}
use Rattle.std.specs.List.{flat_map}
use Rattle.std.specs.Fmt.{decimal}
use Rattle.boot_base.specs.Names.{shown_byte}
use Rattle.boot_base.specs.Paths.{Path}
use Rattle.hex.specs.Hex.{encode_lower}
use Rattle.pcr_values.specs.declared.bank.Bank.{Bank}
use Rattle.pcr_values.specs.ValueLines.{value_lines}
use Rattle.list_json.specs.Lines.{json_line}
use Rattle.list_json.specs.Registers.{values_data}
use Rattle.list_json.specs.Sections.{SectionFacts, sections_data}
use Rattle.command_plans.specs.WordErrors.{printed_path}

-- what is printed behind a section's name: the number and the SHA-256 digest of its loaded bytes
unfoldable pub measures : ℕ → List ℕ → List ℕ
measures size digest =
    codes ":\n  size: " ++ (decimal size ++ (codes " bytes\n  sha256: " ++ (encode_lower digest ++ codes "\n")))

-- the three lines of a section
abbrev pub section_lines : SectionFacts → List ℕ
section_lines section = flat_map shown_byte section.name ++ measures section.size section.digest

-- the path and the number of sections
abbrev pub first_line : Path → ℕ → List ℕ
first_line path count = printed_path path ++ (codes ": " ++ (decimal count ++ codes " sections\n"))

-- sections as they are told: the path, their number and the lines of each, or with the flag their JSON
abbrev pub told_sections : Bool → Path → List SectionFacts → List ℕ
told_sections false path sections = first_line path (length sections) ++ flat_map section_lines sections
told_sections true path sections = json_line (sections_data sections)

-- values by bank and path as they are told: in lines, or with the flag as JSON
abbrev pub told_values : Bool → (Bank → List (List ℕ) → List ℕ) → List Bank → List (List (List ℕ)) → List ℕ
told_values false value banks paths = value_lines value banks paths
told_values true value banks paths = json_line (values_data value banks paths)
