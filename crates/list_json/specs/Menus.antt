-- A menu as JSON.
use Rattle.std.specs.Prelude.{ℕ, Bool, not, List, [], ◌∷◌, ◌++◌, codes, map, Option, Some, None, option_map}
use Rattle.std.specs.List.{flat_map}
use Rattle.serde_json.specs.Data.{Data, number, unsigned, string, array}
use Rattle.serde_json.specs.View.{items_of}
use Rattle.menu_order.specs.Counter.{suffix_text}
use Rattle.menu_order.specs.declared.counted.Suffix.{Suffix}
use Rattle.menu_order.specs.declared.counted.Suffix.TheVariants.{Conf, Efi}
use Rattle.menu_order.specs.declared.item.Counter.{Counter}
use Rattle.menu_order.specs.declared.item.MenuItem.{MenuItem}
use Rattle.boot_entries.specs.Listing.{behind_space, status_text, title_or_base}
use Rattle.list_json.specs.Objects.{MaybeMember, object_of, are_text}

-- the type of an entry by its file's suffix (UAPI Boot Loader Specification)
abbrev pub type_name : Suffix → List ℕ
type_name Conf = codes "type1"
type_name Efi = codes "type2"

-- texts with a space between each two, if there are any
abbrev pub joined_texts : List (List ℕ) → Option (List ℕ)
joined_texts [] = None
joined_texts (first ∷ later) = Some (first ++ flat_map behind_space later)

-- texts as an array, if there are any
abbrev pub texts_array : List (List ℕ) → Option Data
texts_array [] = None
texts_array (first ∷ later) = Some (array (items_of (map string (first ∷ later))))

-- a whole number
abbrev pub number_data : ℕ → Data
number_data n = number (unsigned n)

-- the name of its file without a counter
abbrev pub id_member : MenuItem → MaybeMember
id_member entry = (codes "id", Some (string (entry.base ++ suffix_text entry.suffix)))

-- where its file stands
abbrev pub source_member : List ℕ → MaybeMember
source_member path = (codes "source", Some (string (47 ∷ path)))

-- which entry it is
unfoldable pub name_members : MenuItem → List MaybeMember
name_members entry =
    id_member entry
    ∷ source_member entry.path
    ∷ (codes "type", Some (string (type_name entry.suffix)))
    ∷ (codes "title", option_map string (title_or_base entry.suffix entry.base entry.title))
    ∷ []

-- what it is ordered by
unfoldable pub key_members : MenuItem → List MaybeMember
key_members entry =
    (codes "sortKey", option_map string entry.sort_key)
    ∷ (codes "machineId", option_map string entry.machine_id)
    ∷ (codes "version", option_map string entry.version)
    ∷ []

-- how its boots went
unfoldable pub counter_members : Option Counter → List MaybeMember
counter_members counter =
    (codes "status", Some (string (status_text counter)))
    ∷ (codes "triesLeft", option_map (λ c. number_data c.left) counter)
    ∷ (codes "triesDone", option_map (λ c. number_data c.done) counter)
    ∷ []

-- what it boots
unfoldable pub boot_members : MenuItem → List MaybeMember
boot_members entry =
    (codes "linux", option_map string entry.linux)
    ∷ (codes "efi", option_map string entry.efi)
    ∷ (codes "initrd", texts_array entry.initrds)
    ∷ (codes "options", option_map string (joined_texts entry.options))
    ∷ []

-- what is told of an entry
abbrev pub entry_members : MenuItem → List MaybeMember
entry_members entry =
    name_members entry ++ (key_members entry ++ (counter_members entry.counter ++ boot_members entry))

-- an entry: an object of what it has
abbrev pub entry_data : MenuItem → Data
entry_data entry = object_of (entry_members entry)

-- an entry that JSON can hold: each text that is told of it is UTF-8
abbrev pub is_told : MenuItem → Bool
is_told entry = are_text (entry_members entry)

-- the menu: an array of its entries, in their order
abbrev pub menu_data : List MenuItem → Data
menu_data entries = array (items_of (map entry_data entries))

-- an entry that JSON can't hold
abbrev pub is_untold : MenuItem → Bool
is_untold entry = not (is_told entry)
