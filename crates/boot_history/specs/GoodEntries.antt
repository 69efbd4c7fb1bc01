-- A good entry stays that no command is told to take away.
use Rattle.std.specs.Prelude.{◌≡◌, ℕ, ◌≤◌, Bool, true, false, List, ◌++◌, Contains, Ok}
use Rattle.boot_base.specs.Paths.{Path}
use Rattle.boot_entries.specs.Entries.{boot_menu, entry_count, entry_limit}
use Rattle.boot_entries.specs.Listing.{list_text}
use Rattle.boot_entries.specs.declared.folders.Folders.{Folders}
use Rattle.boot_machine.specs.Disk.{Files}
use Rattle.menu_order.specs.declared.item.MenuItem.{MenuItem}
use Rattle.tool_words.specs.declared.command.Command.{Command}
use Rattle.tool_words.specs.declared.command.Command.TheVariants as command
use Rattle.tool_words.specs.declared.command.Several.TheVariants as several
use Rattle.command_plans.specs.Folders.{folders_of}
use Rattle.entry_commands.specs.GoodEntries.{HasGoodEntry}
use Rattle.entry_commands.specs.Listing.{list_result}
use Rattle.boot_commands.specs.Sparing.{ActionSpares, Spares}
use Rattle.boot_run.specs.declared.line.Line.{Line}
use Rattle.boot_run.specs.declared.line.Line.TheVariants.{Plain, Part, Numbered, Unread, TooLong}
use Rattle.boot_history.specs.Asking.{EachAsks}
use Rattle.boot_history.specs.Histories.{Run, IsHistory, IsStart, AllAlong, AllViews, state_after}

-- every good entry stays, whatever actions these commands have
abbrev pub keeps_entries : Command → Bool
keeps_entries (command.Several (several.Type1Install words)) = true
keeps_entries (command.Several (several.Type1Cleanup esp)) = true
keeps_entries c = false

-- the line spares the good entry at this path
abbrev pub LineSpares : Path → Line → Type 0
LineSpares path (Plain c) = Spares path c
LineSpares path (Part action) = ActionSpares path action
LineSpares path (Numbered number c) = Spares path c
LineSpares path (Unread number) = Unit {0}
LineSpares path TooLong = Unit {0}

-- each run from this state on spares the good entry at this path, by what its words ask for at its start
abbrev pub SpareFrom : Path → List Files → List Run → Type 0
SpareFrom path state runs = EachAsks keeps_entries (LineSpares path) state runs

-- Where a good entry of an EFI system partition stands at a path in each view at the start of some run of a history,
-- and no command from that run on is told to build over it, to unlink it, or to bless it as bad or as indeterminate,
-- and no `keep` removes it, one stands there in each later view.
abbrev pub GoodEntryLaw : Type 0
GoodEntryLaw =
    (esp : List ℕ) (folders : Folders) (path : Path) (first : List Files) (before later : List Run)
    → folders_of esp ≡ Ok folders → IsStart first → IsHistory first (before ++ later)
    → AllViews (HasGoodEntry folders path) (state_after first before) → SpareFrom path (state_after first before) later
    → AllAlong (HasGoodEntry folders path) (state_after first before) later

-- the list of an ESP is the text of the menu of its folders, and the entry at this path is in that
pub record IsListed (view : Files) (esp : List ℕ) (folders : Folders) (path : Path) : Type 0 where
  pub text : list_result view esp false ≡ Ok (list_text (boot_menu view folders))
  pub item : MenuItem
  pub at : item.path ≡ path
  pub among : Contains (boot_menu view folders) item

-- a good entry is listed where the two folders hold at most 4,096 entry files
abbrev pub ListedLaw : Type 0
ListedLaw =
    (view : Files) (esp : List ℕ) (folders : Folders) (path : Path) → folders_of esp ≡ Ok folders
    → HasGoodEntry folders path view → entry_count view folders ≤ entry_limit → IsListed view esp folders path
