-- The commands that `type1 cleanup` stands for on a view, or what it is refused for (profile).
use Rattle.std.specs.Prelude.{ℕ, ◌&&◌, Bool, not, List, filter, map, Result, Ok}
use Rattle.std.specs.FinMap.{keys}
use Rattle.std.specs.List.{list_any}
use Rattle.boot_base.specs.Paths.{Path}
use Rattle.boot_base.specs.declared.refusal.Refusal.{Refusal}
use Rattle.boot_machine.specs.Disk.{Files}
use Rattle.menu_order.specs.declared.item.MenuItem.{MenuItem}
use Rattle.tool_words.specs.declared.action.Action.{Action}
use Rattle.tool_words.specs.declared.action.Action.TheVariants as action
use Rattle.command_plans.specs.WordErrors.{◌>>=◌, path_in, path_under}
use Rattle.command_plans.specs.Folders.{folders_of}
use Rattle.command_plans.specs.Menus.{menu_at}
use Rattle.type1_install.specs.Installing.{payload_probe}
use Rattle.type1_install.specs.Payloads.{is_payload_path, item_names}

-- a payload that none of these entries names
abbrev pub is_unnamed : Path → List MenuItem → Path → Bool
is_unnamed esp items path = is_payload_path esp path && not (list_any (item_names esp path) items)

-- the payloads that no entry names, in the order of their paths
abbrev pub unnamed_payloads : Files → Path → List MenuItem → List Path
unnamed_payloads view esp items = filter (is_unnamed esp items) (keys view)

-- the commands of a cleanup, or what it is refused for
unfoldable pub cleanup_expansion : Files → List ℕ → Result (List Action) Refusal
cleanup_expansion view word =
    folders_of word >>= λ folders.
    path_in word >>= λ esp.
    path_under esp payload_probe >>= λ _.
    menu_at view folders >>= λ menu.
    Ok (map action.Remove (unnamed_payloads view esp menu))
