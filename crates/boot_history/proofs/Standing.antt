-- A good entry stays that no command is told to take away, and is listed.
use Rattle.std.proofs.Common.{◌≡◌, ℕ, false, zero, suc, List, [], ◌∷◌, map, take, refl, Result, Ok, Err, All, Contains, le-ltb}
use Rattle.std.proofs.lemmas.List.Elements.{All-head, All-tail}
use Rattle.boot_base.specs.Paths.{Path}
use Rattle.boot_entries.specs.Entries.{boot_menu, entry_count}
use Rattle.boot_entries.specs.Listing.{list_text}
use Rattle.boot_entries.specs.declared.folders.Folders.{Folders}
use Rattle.boot_entries.proofs.EntryFiles.{entries_menu}
use Rattle.boot_entries.proofs.Members.{none_in}
use Rattle.boot_machine.specs.Prelude.{Files, latest_view}
use Rattle.menu_order.specs.declared.item.MenuItem.{MenuItem}
use Rattle.tool_words.specs.Meaning.{meaning}
use Rattle.tool_words.specs.declared.command.Command.{Command}
use Rattle.tool_words.specs.declared.command.Command.TheVariants as command
use Rattle.tool_words.specs.declared.command.Several.TheVariants as several
use Rattle.tool_words.specs.declared.action.Action.{Action}
use Rattle.tool_words.specs.declared.fault.UsageReason.{UsageReason}
use Rattle.command_plans.specs.Prelude.{folders_of}
use Rattle.entry_commands.specs.GoodEntries.{HasGoodEntry}
use Rattle.entry_commands.specs.Listing.{menu_result}
use Rattle.boot_commands.specs.Expansions.{expansion}
use Rattle.boot_commands.proofs.ExpansionsSpare.{Keeping, cleanup_keeps, install_keeps}
use Rattle.boot_commands.proofs.Sparing.{action_kept, kept}
use Rattle.boot_run.specs.AskedLines.{lines_for, lines_to_run}
use Rattle.boot_run.specs.Lines.{line_deed}
use Rattle.boot_run.specs.Step.{view_after}
use Rattle.boot_run.specs.declared.line.Line.{Line}
use Rattle.boot_run.specs.declared.line.Line.TheVariants.{Plain, Part, Numbered, Unread, TooLong}
use Rattle.boot_history.specs.Asking.{AllLines, EachMeans}
use Rattle.boot_history.specs.GoodEntries.{GoodEntryLaw, LineSpares, ListedLaw, SpareFrom, keeps_entries}
use Rattle.boot_history.specs.Histories.{Run, state_after}
use Rattle.boot_history.specs.Keeping.{KeptBy, KeptFrom}
use Rattle.boot_history.proofs.Keeping.{kept_later}

module _ (esp : List ℕ) (folders : Folders) (read : folders_of esp ≡ Ok folders) (path : Path) where
  after_lines : (view : Files) (lines : List Line) → AllLines (LineSpares path) lines → HasGoodEntry folders path view
      → (n : ℕ)
      → HasGoodEntry folders path (view_after view (take n lines))
  after_lines view lines spare entry zero = entry
  after_lines view [] spare entry (suc n) = entry
  after_lines view (Plain command ∷ lines) spare entry (suc n) =
      after_lines (line_deed view (Plain command)).after lines spare.1
      (kept esp folders read path view entry command spare.0) n
  after_lines view (Part action ∷ lines) spare entry (suc n) =
      after_lines (line_deed view (Part action)).after lines spare.1
      (action_kept esp folders read path view entry action spare.0) n
  after_lines view (Numbered number command ∷ lines) spare entry (suc n) =
      after_lines (line_deed view (Numbered number command)).after lines spare.1
      (kept esp folders read path view entry command spare.0) n
  after_lines view (Unread number ∷ lines) spare entry (suc n) = after_lines view lines spare.1 entry n
  after_lines view (TooLong ∷ lines) spare entry (suc n) = after_lines view lines spare.1 entry n

  -- actions, where each of these keeps the entry
  after_each : (view : Files) (actions : List Action) → All (Keeping esp folders read path) actions
      → HasGoodEntry folders path view
      → (n : ℕ)
      → HasGoodEntry folders path (view_after view (take n (map Part actions)))
  after_each view actions keep entry zero = entry
  after_each view [] keep entry (suc n) = entry
  after_each view (first ∷ more) keep entry (suc n) =
      after_each (line_deed view (Part first)).after more (All-tail (Keeping esp folders read path) first more keep)
      (All-head (Keeping esp folders read path) first more keep view entry) n

  after_meant : (view : Files) (input : List ℕ) (meant : Result Command UsageReason)
      → EachMeans keeps_entries (LineSpares path) view input meant
      → HasGoodEntry folders path view
      → KeptBy (HasGoodEntry folders path) view (lines_to_run input view meant)
  after_meant view input (Err reason) spare entry = tt
  after_meant view input (Ok (command.Several (several.Type1Install words))) spare entry =
      after_each view (expansion view (several.Type1Install words)) (install_keeps esp folders read path view words) entry
  after_meant view input (Ok (command.Several (several.Type1Cleanup word))) spare entry =
      after_each view (expansion view (several.Type1Cleanup word)) (cleanup_keeps esp folders read path view word) entry
  after_meant view input (Ok (command.Several (several.Keep words))) spare entry =
      after_lines view (lines_for input view (command.Several (several.Keep words))) (spare refl) entry
  after_meant view input (Ok (command.Several (several.Demo seed count))) spare entry =
      after_lines view (lines_for input view (command.Several (several.Demo seed count))) (spare refl) entry
  after_meant view input (Ok (command.One c)) spare entry =
      after_lines view (lines_for input view (command.One c)) (spare refl) entry
  after_meant view input (Ok command.Script) spare entry =
      after_lines view (lines_for input view command.Script) (spare refl) entry

  kept_from : (state : List Files) (runs : List Run) → SpareFrom path state runs
      → KeptFrom (HasGoodEntry folders path) state runs
  kept_from state [] spare = tt
  kept_from state (run ∷ runs) spare = (
    λ entry. after_meant (latest_view state) run.input (meaning run.words) spare.0 entry,
    kept_from run.left runs spare.1,
  )

pub good_entry_law : GoodEntryLaw
good_entry_law esp folders path first before later read start history all spare =
    kept_later (HasGoodEntry folders path) first before later start history all
    (kept_from esp folders read path (state_after first before) later spare)

-- ---- the list

some_said : (menu : List MenuItem) (item : MenuItem) → Contains menu item → menu_result false menu ≡ Ok (list_text menu)
some_said [] item among = absurd (none_in item among)
some_said (first ∷ later) item among = refl

pub listed_law : ListedLaw
listed_law view esp folders path read entry few =
    let menu = boot_menu view folders in
    let among = ((entries_menu view folders).entries entry.item).1 entry.entry in
    record {
      text = rw (read, le-ltb 4096 (entry_count view folders) few) (some_said menu entry.item among);
      item = entry.item;
      at = entry.at;
      among = among;
    }
