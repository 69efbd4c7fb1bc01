-- What each command and each action spares of the boot entries: a case for each that doesn't spare all.
use Rattle.std.specs.Prelude.{◌≢◌, Ok}
use Rattle.boot_base.specs.Paths.{Path}
use Rattle.command_plans.specs.WordErrors.{path_in}
use Rattle.tool_words.specs.declared.command.One.{One}
use Rattle.tool_words.specs.declared.command.One.TheVariants as one
use Rattle.tool_words.specs.declared.action.Action.{Action}
use Rattle.tool_words.specs.declared.action.Action.TheVariants as action
use Rattle.entry_commands.specs.GoodEntries.{SparesGoodName}
use Rattle.entry_commands.specs.Unlinking.{entry_path}

-- The command isn't told to build over the good entry at this path, to unlink it, or to bless it as bad or as
-- indeterminate. An installation over it leaves an entry there.
abbrev pub Spares : Path → One → Type 0
Spares path (one.Build words) = path_in words.output ≢ Ok path
Spares path (one.Unlink name esp) = entry_path name esp ≢ Ok path
Spares path (one.Bless verb word esp) = SparesGoodName path verb word esp
Spares path c = Unit {0}

-- the action changes no file at this path
abbrev pub ActionSpares : Path → Action → Type 0
ActionSpares path (action.Put file target) = target ≢ path
ActionSpares path (action.Enter at text) = at ≢ path
ActionSpares path (action.Remove at) = at ≢ path
ActionSpares path (action.Refuse why) = Unit {0}
ActionSpares path (action.Tell text) = Unit {0}
