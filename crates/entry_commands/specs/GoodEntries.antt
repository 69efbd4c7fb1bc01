-- Good entries: valid ones whose names have no boot counter (UAPI Boot Loader Specification, "Boot counting").
use Rattle.std.specs.Prelude.{◌≡◌, ◌≢◌, ℕ, List, IfOk}
use Rattle.boot_base.specs.Paths.{Path, file_name_of}
use Rattle.menu_order.specs.Counter.{IsUncounted}
use Rattle.boot_entries.specs.Entries.{IsEntry}
use Rattle.boot_entries.specs.declared.folders.Folders.{Folders}
use Rattle.boot_machine.specs.Disk.{Files}
use Rattle.menu_order.specs.declared.bless.BlessVerb.TheVariants as verbs
use Rattle.menu_order.specs.declared.item.MenuItem.{MenuItem}
use Rattle.tool_words.specs.declared.command.BlessWord.{BlessWord}
use Rattle.tool_words.specs.declared.command.BlessWord.TheVariants as words
use Rattle.entry_commands.specs.Blessing.{reported_paths}

-- the file at this path is an entry of the folders, and its name has no boot counter
pub record HasGoodEntry (folders : Folders) (path : Path) (view : Files) : Type 0 where
  pub item : MenuItem
  pub at : item.path ≡ path
  pub entry : IsEntry view folders item
  pub good : IsUncounted (file_name_of path)

-- A blessing doesn't take the name at this path away: only one as bad or as indeterminate takes the good name of the
-- entry that its words report.
abbrev pub SparesGoodName : Path → BlessWord → List ℕ → List ℕ → Type 0
SparesGoodName path (words.Mark verbs.Good) word esp = Unit {0}
SparesGoodName path (words.Mark verbs.Bad) word esp = IfOk (reported_paths word esp) (λ paths. paths.good ≢ path)
SparesGoodName path (words.Mark verbs.Indeterminate) word esp = IfOk (reported_paths word esp) (λ paths. paths.good ≢ path)
SparesGoodName path words.Status word esp = Unit {0}
