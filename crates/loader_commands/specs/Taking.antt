-- How many bytes `loader show` reads.
use Rattle.std.specs.Prelude.{ℕ, ◌+◌, Result, Ok, Err}
use Rattle.boot_base.specs.Limits.{text_limit}
use Rattle.boot_base.specs.declared.refusal.Refusal.{Refusal}
use Rattle.boot_machine.specs.Disk.{Files}
use Rattle.command_plans.specs.Menus.{menu_limit}
use Rattle.loader_commands.specs.declared.places.LoaderPaths.{LoaderPaths}

-- as many as a loader.conf may have and the menu of the folders takes, none where the word is refused
abbrev pub show_limit : Files → Result LoaderPaths Refusal → ℕ
show_limit files (Ok paths) = text_limit + menu_limit files (Ok paths.folders)
show_limit files (Err why) = 0
