-- The payloads of entries stay.
use Rattle.std.specs.Prelude.{◌≡◌, ℕ, Bool, true, false, List, ◌++◌, Contains, IfOk, Ok, Some, bytes_eq}
use Rattle.std.specs.Option.{option_to_list}
use Rattle.boot_base.specs.Paths.{Path, file_name_of, under}
use Rattle.boot_entries.specs.Entries.{IsEntry}
use Rattle.boot_machine.specs.Disk.{Files}
use Rattle.boot_texts.specs.EntryText.{is_payload_name}
use Rattle.menu_order.specs.declared.item.MenuItem.{MenuItem}
use Rattle.command_plans.specs.WordErrors.{path_in}
use Rattle.tool_words.specs.declared.command.Command.{Command}
use Rattle.tool_words.specs.declared.command.Command.TheVariants as command
use Rattle.tool_words.specs.declared.command.One.{One}
use Rattle.tool_words.specs.declared.command.One.TheVariants as one
use Rattle.tool_words.specs.declared.command.Several.TheVariants as several
use Rattle.tool_words.specs.declared.command.KeepWords.{KeepWords}
use Rattle.tool_words.specs.declared.command.Type1Words.{Type1Words}
use Rattle.type1_install.specs.Payloads.{HasPayload, folders_at, path_of_value, payload_folder}
use Rattle.boot_run.specs.AskedLines.{lines_for}
use Rattle.boot_run.specs.declared.line.Line.{Line}
use Rattle.boot_run.specs.declared.line.Line.TheVariants.{Plain, Part, Numbered, Unread, TooLong}
use Rattle.boot_history.specs.Asking.{EachAsks}
use Rattle.boot_history.specs.Histories.{Run, IsHistory, IsStart, AllAlong, AllViews, state_after}
use Rattle.boot_history.specs.Keeping.{KeptBy}

-- Each payload that an entry names as its kernel or an initrd, and whose name counts, is there, and has its digest for
-- its name. Which names count is free: all of them, those that one entry names, or one alone.
abbrev pub AreNamedThere : (List ℕ → Bool) → Path → Files → Type 0
AreNamedThere counts esp view =
    (item : MenuItem) → IsEntry view (folders_at esp) item
    → (value : List ℕ) → Contains (option_to_list item.linux ++ item.initrds) value
    → (name : List ℕ) → is_payload_name name ≡ true → counts name ≡ true
    → path_of_value esp value ≡ Some (under (payload_folder esp) name)
    → HasPayload esp name view

-- An installation keeps them, of its own ESP and of any other, after each number of its actions.
abbrev pub InstallKeepsLaw : Type 0
InstallKeepsLaw =
    (counts : List ℕ → Bool) (esp : Path) (view : Files) (input : List ℕ) (words : Type1Words)
    → AreNamedThere counts esp view
    → KeptBy (AreNamedThere counts esp) view (Ok (lines_for input view (command.Several (several.Type1Install words))))

-- so does a cleanup
abbrev pub CleanupKeepsLaw : Type 0
CleanupKeepsLaw =
    (counts : List ℕ → Bool) (esp : Path) (view : Files) (input word : List ℕ) → AreNamedThere counts esp view
    → KeptBy (AreNamedThere counts esp) view (Ok (lines_for input view (command.Several (several.Type1Cleanup word))))

-- and a `keep`
abbrev pub RemovalKeepsLaw : Type 0
RemovalKeepsLaw =
    (counts : List ℕ → Bool) (esp : Path) (view : Files) (input : List ℕ) (words : KeepWords)
    → AreNamedThere counts esp view
    → KeptBy (AreNamedThere counts esp) view (Ok (lines_for input view (command.Several (several.Keep words))))

-- the file is one directly in the folder
abbrev pub is_directly_in : Path → Path → Bool
is_directly_in folder path = bytes_eq (under folder (file_name_of path)) path

-- a build has its output neither directly in the ESP's folder of payloads nor in that of its entries of type 1
abbrev pub BuildsApart : Path → One → Type 0
BuildsApart esp (one.Build words) = IfOk (path_in words.output) (λ output.
    (is_directly_in (payload_folder esp) output ≡ false) × (is_directly_in (folders_at esp).entries output ≡ false))
BuildsApart esp c = Unit {0}

-- so has the command of a line; of actions nothing is asked
abbrev pub LineApart : Path → Line → Type 0
LineApart esp (Plain c) = BuildsApart esp c
LineApart esp (Part action) = Unit {0}
LineApart esp (Numbered number c) = BuildsApart esp c
LineApart esp (Unread number) = Unit {0}
LineApart esp TooLong = Unit {0}

-- a command of several actions keeps the payloads
abbrev pub keeps_payloads : Command → Bool
keeps_payloads (command.Several c) = true
keeps_payloads c = false

-- Whichever names count: where the payloads that entries name are there in each view at the start of some run of a
-- history, and no build from that run on has its output directly in one of the two folders, they are there in each
-- later view. So what one entry names stays, whatever other entries name.
abbrev pub PayloadLaw : Type 0
PayloadLaw =
    (counts : List ℕ → Bool) (esp : Path) (first : List Files) (before later : List Run)
    → IsStart first → IsHistory first (before ++ later)
    → AllViews (AreNamedThere counts esp) (state_after first before)
    → EachAsks keeps_payloads (LineApart esp) (state_after first before) later
    → AllAlong (AreNamedThere counts esp) (state_after first before) later
