-- The sections of an image as JSON.
use Rattle.std.specs.Prelude.{ℕ, List, [], ◌∷◌, codes, map, Some}
use Rattle.std.specs.List.{flat_map}
use Rattle.hex.specs.Hex.{encode_lower}
use Rattle.serde_json.specs.Data.{Data, string, array}
use Rattle.serde_json.specs.View.{items_of}
use Rattle.boot_base.specs.Names.{shown_byte}
use Rattle.pcr_values.specs.Values.{bytes_of_digest}
use Rattle.list_json.specs.declared.inspection.Inspected.{Inspected}
use Rattle.list_json.specs.Objects.{MaybeMember, object_of}
use Rattle.list_json.specs.Menus.{number_data}

-- what is told of a section: its name, and the number and the SHA-256 digest of its loaded bytes
pub record SectionFacts : Type 0 where
  pub name : List ℕ
  pub size : ℕ
  pub digest : List ℕ

-- what an inspection has found
abbrev pub facts_of : Inspected → SectionFacts
facts_of section = record { name = section.name; size = section.size; digest = bytes_of_digest section.digest }

-- the members of a section: its name as it is printed, its digest and its size
abbrev pub section_members : SectionFacts → List MaybeMember
section_members section =
    (codes "name", Some (string (flat_map shown_byte section.name)))
    ∷ (codes "sha256", Some (string (encode_lower section.digest)))
    ∷ (codes "size", Some (number_data section.size))
    ∷ []

-- a section: an object
abbrev pub section_data : SectionFacts → Data
section_data section = object_of (section_members section)

-- an inspection: an array of its sections, in their order
abbrev pub sections_data : List SectionFacts → Data
sections_data sections = array (items_of (map section_data sections))
