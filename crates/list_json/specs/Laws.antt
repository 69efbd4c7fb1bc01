-- The order of keys, and that answers are read as they were told.
use Rattle.std.specs.Prelude.{◌≡◌, ℕ, ◌<◌, ◌^◌, List, find, All, None, IfSome, IsUtf8, ⊤}
use Rattle.std.specs.Ordering.{nat_cmp}
use Rattle.std.specs.Cmp.Lexicographic.{slice_cmp}
use Rattle.std.specs.declared.cmp.Ordering.TheVariants.{Less}
use Rattle.menu_order.specs.declared.item.Counter.{Counter}
use Rattle.menu_order.specs.declared.item.MenuItem.{MenuItem}
use Rattle.pcr_values.specs.declared.bank.Bank.{Bank}
use Rattle.serde_json.specs.Data.{Data, null, boolean, number, string, array, object, Items, no_items, item, Members, no_members, member}
use Rattle.list_json.specs.Lines.{ReadsAs, json_line}
use Rattle.list_json.specs.Menus.{is_untold, menu_data}
use Rattle.list_json.specs.Sections.{SectionFacts, sections_data}
use Rattle.list_json.specs.Registers.{values_data}

-- each key is above this one
abbrev pub AreAbove : List ℕ → Members → Type 0
AreAbove key no_members = ⊤
AreAbove key (member other value members) = (slice_cmp nat_cmp key other ≡ Less) × AreAbove key members

-- in each object the keys ascend by their bytes, so that none comes twice
abbrev mutual
  pub KeysAscend : Data → Type 0
  KeysAscend null = ⊤
  KeysAscend (boolean b) = ⊤
  KeysAscend (number n) = ⊤
  KeysAscend (string bytes) = ⊤
  KeysAscend (array items) = KeysAscendInItems items
  KeysAscend (object members) = KeysAscendInMembers members

  -- in each object of an array's items
  pub KeysAscendInItems : Items → Type 0
  KeysAscendInItems no_items = ⊤
  KeysAscendInItems (item value items) = KeysAscend value × KeysAscendInItems items

  -- of an object's members, and in each object of their values
  pub KeysAscendInMembers : Members → Type 0
  KeysAscendInMembers no_members = ⊤
  KeysAscendInMembers (member key value members) = AreAbove key members × KeysAscend value × KeysAscendInMembers members

-- in the answer of every menu
abbrev pub MenuKeysAscend : Type 0
MenuKeysAscend = (entries : List MenuItem) → KeysAscend (menu_data entries)

-- in the answer of every inspection
abbrev pub SectionKeysAscend : Type 0
SectionKeysAscend = (sections : List SectionFacts) → KeysAscend (sections_data sections)

-- in the answer of all values of registers
abbrev pub ValueKeysAscend : Type 0
ValueKeysAscend =
    (value : Bank → List (List ℕ) → List ℕ) (banks : List Bank) (paths : List (List (List ℕ)))
    → KeysAscend (values_data value banks paths)

-- both numbers fit in 64 bits, and readers keep such (RFC 8259, section 6, leaves the range to the reader)
abbrev pub FitsReaders : Counter → Type 0
FitsReaders counter = (counter.left < 2 ^ 64) × (counter.done < 2 ^ 64)

-- the line of every menu whose texts are UTF-8 is read as that menu (RFC 8259)
abbrev pub MenusReadBack : Type 0
MenusReadBack =
    (entries : List MenuItem)
    → find is_untold entries ≡ None
    → All (λ entry. IfSome entry.counter FitsReaders) entries
    → ReadsAs (json_line (menu_data entries)) (menu_data entries)

-- the line of every inspection is read as those sections (RFC 8259)
abbrev pub SectionsReadBack : Type 0
SectionsReadBack =
    (sections : List SectionFacts)
    → All (λ section. section.size < 2 ^ 64) sections
    → ReadsAs (json_line (sections_data sections)) (sections_data sections)

-- the line of all values of registers, after paths of UTF-8 words, is read as those values (RFC 8259)
abbrev pub ValuesReadBack : Type 0
ValuesReadBack =
    (value : Bank → List (List ℕ) → List ℕ) (banks : List Bank) (paths : List (List (List ℕ)))
    → All (All IsUtf8) paths
    → ReadsAs (json_line (values_data value banks paths)) (values_data value banks paths)
