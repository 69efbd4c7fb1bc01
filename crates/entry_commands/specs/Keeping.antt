-- `keep`: of each group of boot entries the first ones of the menu stay, and if none of these is good, the first good one
-- (profile).
use Rattle.std.specs.Prelude.{ℕ, Bool, List, [], ◌∷◌, ◌++◌, codes, Result, Ok, Err}
use Rattle.std.specs.List.{flat_map}
use Rattle.boot_base.specs.Paths.{Path}
use Rattle.boot_base.specs.declared.refusal.Refusal.{Refusal}
use Rattle.boot_base.specs.declared.refusal.Refusal.TheVariants as refusals
use Rattle.boot_machine.specs.Disk.{Files}
use Rattle.menu_order.specs.declared.item.MenuItem.{MenuItem}
use Rattle.menu_order.specs.KeepLaws.{doomed_paths}
use Rattle.tool_words.specs.declared.command.KeepWords.{KeepWords}
use Rattle.command_plans.specs.WordErrors.{◌>>=◌, printed_path}
use Rattle.command_plans.specs.Folders.{folders_of}
use Rattle.command_plans.specs.Menus.{menu_at}
use Rattle.entry_commands.specs.Counts.{count_in}

-- a menu that has an entry
abbrev pub some_menu : List MenuItem → Result (List MenuItem) Refusal
some_menu [] = Err refusals.NoEntries
some_menu (item ∷ items) = Ok (item ∷ items)

-- where the entries of a menu stand that go, the last of the menu first
abbrev pub menu_paths : ℕ → Bool → List MenuItem → Result (List Path) Refusal
menu_paths n per_key menu = some_menu menu >>= λ menu. Ok (doomed_paths n per_key menu)

-- where the entries stand that go, in the order in which they go, or what the words are refused for
abbrev pub keep_result : Files → KeepWords → Result (List Path) Refusal
keep_result view words =
    count_in words.number >>= λ n.
    folders_of words.esp >>= λ folders.
    menu_at view folders >>= menu_paths n words.per_key

-- what is told of a file that would go
abbrev pub would_line : Path → List ℕ
would_line path = codes "would unlink " ++ (printed_path path ++ codes "\n")

-- what is told if no file goes
abbrev pub would_text : List Path → List ℕ
would_text [] = codes "nothing to remove\n"
would_text (path ∷ paths) = flat_map would_line (path ∷ paths)
