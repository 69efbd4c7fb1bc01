-- Values of PCR 11 as JSON.
use Rattle.std.specs.Prelude.{ℕ, List, [], ◌∷◌, codes, map, Some}
use Rattle.hex.specs.Hex.{encode_lower}
use Rattle.serde_json.specs.Data.{Data, string, array}
use Rattle.serde_json.specs.View.{items_of}
use Rattle.pcr_values.specs.declared.bank.Bank.{Bank}
use Rattle.pcr_values.specs.Banks.{bank_name, extend_all}
use Rattle.pcr_values.specs.Values.{pcr_bank, pcr_bytes}
use Rattle.pcr_values.specs.declared.pcr.Pcr.{Pcr}
use Rattle.pcr_values.specs.Phases.{path_text}
use Rattle.list_json.specs.Objects.{MaybeMember, object_of}
use Rattle.list_json.specs.Menus.{number_data}

-- a value: its bytes, its register and the path as a heading has it
abbrev pub value_members : List (List ℕ) → List ℕ → List MaybeMember
value_members path bytes =
    (codes "hash", Some (string (encode_lower bytes)))
    ∷ (codes "pcr", Some (number_data 11))
    ∷ (codes "phase", Some (string (path_text path)))
    ∷ []

-- a value of a register: an object
abbrev pub value_data : List (List ℕ) → List ℕ → Data
value_data path bytes = object_of (value_members path bytes)

-- the values of a bank under its name: an array with one for each path, in their order
abbrev pub bank_member : (List (List ℕ) → List ℕ) → List ℕ → List (List (List ℕ)) → MaybeMember
bank_member value name paths = (name, Some (array (items_of (map (λ path. value_data path (value path)) paths))))

-- the values by bank and path: an object with a member for each bank
abbrev pub values_data : (Bank → List (List ℕ) → List ℕ) → List Bank → List (List (List ℕ)) → Data
values_data value banks paths = object_of (map (λ bank. bank_member (value bank) (bank_name bank) paths) banks)

-- the member of a register: its values after the words of each path have extended it
abbrev pub register_member : List (List (List ℕ)) → Pcr → MaybeMember
register_member paths start =
    bank_member (extend_all (pcr_bank start) (pcr_bytes start)) (bank_name (pcr_bank start)) paths

-- the values of any registers: an object with a member for each
abbrev pub registers_data : List Pcr → List (List (List ℕ)) → Data
registers_data starts paths = object_of (map (register_member paths) starts)
