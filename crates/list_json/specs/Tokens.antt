-- The tokens of objects whose members may be absent, one behind another as they are written.
use Rattle.std.specs.Prelude.{◌≡◌, ℕ, codes, List, [], ◌∷◌, ◌++◌, Option, Some, None, option_map, ⊤}
use Rattle.std.specs.List.{flat_map, fold}
use Rattle.json.specs.Token.{Token}
use Rattle.json.specs.Tree.{json_tokens}
use Rattle.menu_order.specs.declared.item.Counter.{Counter}
use Rattle.menu_order.specs.declared.item.MenuItem.{MenuItem}
use Rattle.boot_entries.specs.Listing.{status_text, title_or_base}
use Rattle.serde_json.specs.Data.{Data, string}
use Rattle.serde_json.specs.Read.{of_json}
use Rattle.serde_json.specs.Written.{outline}
use Rattle.list_json.specs.Menus.{id_member, source_member, texts_array, joined_texts, number_data, type_name}
use Rattle.list_json.specs.Objects.{MaybeMember}

-- the tokens of a value
abbrev pub data_tokens : Data → List Token
data_tokens value = json_tokens (outline value)

-- the tokens of values, one behind another
abbrev pub list_tokens : List Data → List Token
list_tokens values = flat_map data_tokens values

-- tokens with those of a member behind them, if it has a value
abbrev pub put_tokens : List ℕ → Option Data → List Token → List Token
put_tokens key None tokens = tokens
put_tokens key (Some value) tokens = tokens ++ Token.key key ∷ data_tokens value

-- tokens with those of a row's member behind them, if it has a value
abbrev pub put_row : List Token → MaybeMember → List Token
put_row tokens row = put_tokens row.0 row.1 tokens

-- tokens with those of members behind them, in this order
abbrev pub put_rows : List Token → List MaybeMember → List Token
put_rows = fold put_row

-- the tokens of a value are read as this value
abbrev pub ReadsBack : Data → Type 0
ReadsBack value = of_json (outline value) ≡ Some value

-- and those of each of these values
abbrev pub ListReads : List Data → Type 0
ListReads [] = ⊤
ListReads (value ∷ values) = ReadsBack value × ListReads values

-- the numbers of a counter are read as they are written
abbrev pub CounterReads : Option Counter → Type 0
CounterReads None = ⊤
CounterReads (Some counter) = ReadsBack (number_data counter.left) × ReadsBack (number_data counter.done)

-- what is told of an entry, the keys ascending: from `efi` to `linux`
unfoldable pub front_rows : MenuItem → List MaybeMember
front_rows entry =
    (codes "efi", option_map string entry.efi)
    ∷ id_member entry
    ∷ (codes "initrd", texts_array entry.initrds)
    ∷ (codes "linux", option_map string entry.linux)
    ∷ []

-- from `machineId` to `source`
unfoldable pub middle_rows : MenuItem → List MaybeMember
middle_rows entry =
    (codes "machineId", option_map string entry.machine_id)
    ∷ (codes "options", option_map string (joined_texts entry.options))
    ∷ (codes "sortKey", option_map string entry.sort_key)
    ∷ source_member entry.path
    ∷ []

-- `status` and `title`
unfoldable pub state_rows : MenuItem → List MaybeMember
state_rows entry =
    (codes "status", Some (string (status_text entry.counter)))
    ∷ (codes "title", option_map string (title_or_base entry.suffix entry.base entry.title))
    ∷ []

-- `triesDone` and `triesLeft`
unfoldable pub tries_rows : Option Counter → List MaybeMember
tries_rows counter =
    (codes "triesDone", option_map (λ c. number_data c.done) counter)
    ∷ (codes "triesLeft", option_map (λ c. number_data c.left) counter)
    ∷ []

-- `type` and `version`
unfoldable pub end_rows : MenuItem → List MaybeMember
end_rows entry =
    (codes "type", Some (string (type_name entry.suffix)))
    ∷ (codes "version", option_map string entry.version)
    ∷ []

-- all that is told of an entry, the keys ascending
abbrev pub entry_rows : MenuItem → List MaybeMember
entry_rows entry =
    front_rows entry
    ++ (middle_rows entry ++ (state_rows entry ++ (tries_rows entry.counter ++ end_rows entry)))
