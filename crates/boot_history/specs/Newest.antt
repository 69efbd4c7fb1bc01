-- A run of `keep`: it removes the files of the doomed entries one by one, from the menu's last upwards.
use Rattle.std.specs.Prelude.{◌≡◌, ◌≢◌, ◌⊎◌, ℕ, ◌+◌, ◌≤◌, Bool, true, false, List, [], ◌∷◌, bytes_eq, drop, take, Contains, Ok}
use Rattle.std.specs.List.{list_any}
use Rattle.boot_base.specs.Paths.{Path}
use Rattle.boot_machine.specs.Disk.{Files}
use Rattle.boot_machine.specs.Sent.{latest_view}
use Rattle.menu_order.specs.declared.item.MenuItem.{MenuItem}
use Rattle.menu_order.specs.Doomed.{doomed_records, kept_records}
use Rattle.menu_order.specs.KeepLaws.{doomed_paths}
use Rattle.boot_entries.specs.Entries.{boot_menu, entry_count, entry_limit}
use Rattle.boot_entries.specs.Removals.{menu_without}
use Rattle.boot_entries.specs.declared.folders.Folders.{Folders}
use Rattle.tool_words.specs.Meaning.{meaning}
use Rattle.tool_words.specs.declared.command.Command.{Command}
use Rattle.tool_words.specs.declared.command.Command.TheVariants as command
use Rattle.tool_words.specs.declared.command.Several.TheVariants as several
use Rattle.tool_words.specs.declared.command.KeepWords.{KeepWords}
use Rattle.command_plans.specs.Deeds.{Finished}
use Rattle.command_plans.specs.Folders.{folders_of}
use Rattle.entry_commands.specs.Counts.{count_in}
use Rattle.boot_run.specs.AskedLines.{lines_for}
use Rattle.boot_run.specs.Step.{Acknowledges, join_replies, replies, some_refused}
use Rattle.boot_run.specs.declared.line.Line.{Line}
use Rattle.boot_history.specs.Asking.{AllLines}
use Rattle.boot_history.specs.GoodEntries.{LineSpares}
use Rattle.boot_history.specs.Histories.{AllViews, IsHistory, IsStart, Run}

-- a `keep` of these words
abbrev pub keep_command : KeepWords → Command
keep_command words = command.Several (several.Keep words)

-- on this view a `keep` of n entries, in these folders, isn't refused
pub record AllowsKeep (view : Files) (words : KeepWords) (n : ℕ) (folders : Folders) : Type 0 where
  pub number : count_in words.number ≡ Ok n
  pub place : folders_of words.esp ≡ Ok folders
  pub few : entry_count view folders ≤ entry_limit
  pub some : boot_menu view folders ≢ []

-- Of the menu at the start the first so many of the doomed entries are gone, as many as the run acknowledged or one
-- more, and every other is in its place. Those of the doomed that are left are doomed still, and no more. Once all is
-- said, the kept ones are left.
pub record LacksDoomed (n : ℕ) (per_key : Bool) (first : Files) (folders : Folders) (lines : List Line) (run : Run)
    (view : Files) : Type 0 where
  pub count : ℕ
  pub acked : ℕ
  pub is_acked : Acknowledges (replies first lines) run.sent acked
  pub one_more : (count ≡ acked) ⊎ (count ≡ acked + 1)
  pub menu : boot_menu view folders
      ≡ menu_without (take count (doomed_paths n per_key (boot_menu first folders))) (boot_menu first folders)
  pub kept : (item : MenuItem) → Contains (kept_records n per_key (boot_menu first folders)) item
      → Contains (boot_menu view folders) item
  pub few : entry_count view folders ≤ entry_count first folders
  pub rest : doomed_records n per_key (boot_menu view folders)
      ≡ drop count (doomed_records n per_key (boot_menu first folders))
  pub said : run.sent ≡ join_replies (replies first lines)
      → boot_menu view folders ≡ kept_records n per_key (boot_menu first folders)
  pub finished : run.end ≡ Finished → boot_menu view folders ≡ kept_records n per_key (boot_menu first folders)

-- At each moment since the start of a `keep` that isn't refused, on a machine where boot sees one view, the menu is that
-- at the start without a first part of the doomed entries.
abbrev pub NewestLaw : Type 0
NewestLaw =
    (state : List Files) (run : Run) (words : KeepWords) (n : ℕ) (folders : Folders)
    → IsStart state → IsHistory state (run ∷ []) → meaning run.words ≡ Ok (keep_command words)
    → words.dry_run ≡ false → AllowsKeep (latest_view state) words n folders
    → AllViews (LacksDoomed n words.per_key (latest_view state) folders
    (lines_for run.input (latest_view state) (keep_command words)) run) run.left

-- one that only tells changes nothing
abbrev pub ToldLaw : Type 0
ToldLaw =
    (state : List Files) (run : Run) (words : KeepWords)
    → IsStart state → IsHistory state (run ∷ []) → meaning run.words ≡ Ok (keep_command words)
    → words.dry_run ≡ true → AllViews (λ view. view ≡ latest_view state) run.left

-- if a `keep` isn't refused, no reply of it is a refusal
abbrev pub UnrefusedLaw : Type 0
UnrefusedLaw =
    (view : Files) (input : List ℕ) (words : KeepWords) (n : ℕ) (folders : Folders)
    → AllowsKeep view words n folders → some_refused view (lines_for input view (keep_command words)) ≡ false

-- and it spares what stands at each path that isn't that of a doomed entry
abbrev pub KeepSparesLaw : Type 0
KeepSparesLaw =
    (view : Files) (input : List ℕ) (words : KeepWords) (n : ℕ) (folders : Folders) (path : Path)
    → AllowsKeep view words n folders
    → list_any (bytes_eq path) (doomed_paths n words.per_key (boot_menu view folders)) ≡ false
    → AllLines (LineSpares path) (lines_for input view (keep_command words))
