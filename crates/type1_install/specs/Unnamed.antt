-- The payloads among the names of a folder that no entry names.
use Rattle.std.specs.Prelude.{ℕ, List, not, filter, map}
use Rattle.std.specs.List.{filter_map, list_any}
use Rattle.boot_base.specs.Paths.{Path, under}
use Rattle.boot_texts.specs.EntryText.{is_payload_name}
use Rattle.menu_order.specs.declared.item.MenuItem.{MenuItem}
use Rattle.command_plans.specs.declared.read_error.ReadError.{ReadError}
use Rattle.command_plans.specs.declared.read_error.ReadError.TheVariants as read_errors
use Rattle.type1_install.specs.Payloads.{item_names, path_of_value, named_values}

-- memory ran out or the disk failed, and nothing is refused
abbrev pub IsNoRefusal : ReadError → Type 0
IsNoRefusal read_errors.Memory = Unit {0}
IsNoRefusal read_errors.Disk = Unit {0}
IsNoRefusal (read_errors.Refused why) = ⊥

-- the paths below the ESP that an entry names
abbrev pub paths_named_by : Path → MenuItem → List Path
paths_named_by esp item = filter_map (path_of_value esp) (named_values item)

-- the paths of the payloads among these names that none of the entries names
abbrev pub unnamed_among : Path → Path → List MenuItem → List (List ℕ) → List Path
unnamed_among esp folder items names =
    filter (λ path. not (list_any (item_names esp path) items)) (map (under folder) (filter is_payload_name names))
