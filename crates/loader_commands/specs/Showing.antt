-- `loader show`: the entry that boots by default, where it stands, and how long the menu waits (loader.conf(5)).
use Rattle.std.specs.Prelude.{ℕ, List, ◌++◌, codes, map, slice_get, Option, Some, None, option_and_then, Result, Ok, Err}
use Rattle.boot_base.specs.declared.refusal.Refusal.{Refusal}
use Rattle.boot_base.specs.declared.refusal.Refusal.TheVariants as refusals
use Rattle.menu_order.specs.Ids.{entry_id}
use Rattle.boot_machine.specs.Disk.{Files}
use Rattle.command_plans.specs.Answers.{Answer, answer_of_read}
use Rattle.command_plans.specs.WordErrors.{◌>>=◌, printed_path}
use Rattle.command_plans.specs.Menus.{menu_at}
use Rattle.loader_commands.specs.Places.{conf_bytes, loader_paths}
use Rattle.boot_texts.specs.ConfChoice.{default_place}
use Rattle.boot_texts.specs.Conf.{conf_default, conf_timeout}
use Rattle.menu_order.specs.declared.item.MenuItem.{MenuItem}

-- the entry of the menu that a default chooses; nothing where the menu is empty
abbrev pub default_item : Option (List ℕ) → List MenuItem → Option MenuItem
default_item default menu = option_and_then (slice_get menu) (default_place default (map entry_id menu))

-- the timeout, or `none`
abbrev pub timeout_or_none : Option (List ℕ) → List ℕ
timeout_or_none None = codes "none"
timeout_or_none (Some timeout) = timeout

-- what is told of the default entry
abbrev pub show_text : MenuItem → Option (List ℕ) → List ℕ
show_text item timeout =
    codes "chosen " ++ (entry_id item
    ++ (codes "\nsource " ++ (printed_path item.path
    ++ (codes "\ntimeout " ++ (timeout_or_none timeout ++ codes "\n")))))

-- what is told of an entry that was chosen; where the menu is empty, that there are no entries
abbrev pub shown_or_empty : Option (List ℕ) → Option MenuItem → Result (List ℕ) Refusal
shown_or_empty timeout None = Err refusals.NoEntries
shown_or_empty timeout (Some item) = Ok (show_text item timeout)

-- what is told of a menu by the bytes of a loader.conf
abbrev pub menu_shown : List ℕ → List MenuItem → Result (List ℕ) Refusal
menu_shown bytes menu = shown_or_empty (conf_timeout bytes) (default_item (conf_default bytes) menu)

-- what is told of an ESP by its word
abbrev pub show_result : Files → List ℕ → Result (List ℕ) Refusal
show_result view word =
    loader_paths word >>= λ paths.
    conf_bytes view paths.conf >>= λ bytes.
    menu_at view paths.folders >>= menu_shown bytes

-- what `loader show` answers
abbrev pub show_answer : Files → List ℕ → Answer
show_answer view word = answer_of_read view (show_result view word)
