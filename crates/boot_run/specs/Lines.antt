-- The lines of a run: commands on their own, lines of a script, and what is no command.
use Rattle.std.specs.Prelude.{◌≡◌, ℕ, ◌+◌, Bool, true, false, not, ◌||◌, List, [], ◌∷◌, ◌++◌, codes, if◌then◌else◌}
use Rattle.std.specs.Fmt.{decimal}
use Rattle.boot_base.specs.Refusals.{line_of}
use Rattle.boot_base.specs.declared.refusal.Refusal.TheVariants as refusals
use Rattle.boot_machine.specs.Disk.{Files, State}
use Rattle.boot_machine.specs.Rows.{on_channel}
use Rattle.boot_machine.specs.declared.machine.Channel.TheVariants.{Out, Err}
use Rattle.command_plans.specs.Answers.{is_refusal}
use Rattle.boot_commands.specs.Commands.{LeavesTidied, one_deed, action_deed}
use Rattle.command_plans.specs.Deeds.{Deed}
use Rattle.command_plans.specs.declared.outcome.Outcome.{Outcome}
use Rattle.command_plans.specs.declared.outcome.Outcome.TheVariants.{Done, Refused}
use Rattle.boot_run.specs.declared.line.Line.{Line}
use Rattle.boot_run.specs.declared.line.Line.TheVariants.{Plain, Part, Numbered, Unread, TooLong}
use Rattle.boot_run.specs.declared.lines.Acknowledgements.{Acknowledgements}

-- `ok K` or `refused K`, with a newline
abbrev pub acknowledgement : Outcome → ℕ → List ℕ
acknowledgement outcome number =
    (if is_refusal outcome then codes "refused " else codes "ok ") ++ (decimal number ++ codes "\n")

-- the one of two texts that is printed behind this outcome
abbrev pub acknowledgement_in : Acknowledgements → Outcome → List ℕ
acknowledgement_in texts Done = texts.ok
acknowledgement_in texts (Refused number) = texts.refused

-- the deed, with its acknowledgement on Out behind its reply
abbrev pub with_acknowledgement : ℕ → Deed → Deed
with_acknowledgement number deed = record {
  settles = deed.settles;
  outcome = deed.outcome;
  after = deed.after;
  sent = deed.sent ++ on_channel Out (acknowledgement deed.outcome number);
}

-- the refusal of what is no command: nothing is settled
abbrev pub unread_deed : ℕ → List ℕ → Files → Deed
unread_deed number text view =
    record { settles = false; outcome = Refused number; after = view; sent = on_channel Err text }

-- the line of refusal 17
abbrev pub no_command_text : ℕ → List ℕ
no_command_text number = line_of (refusals.BadScript number)

-- the most bytes of a script
abbrev pub script_limit : ℕ
script_limit = 1048576

-- the line of refusal 3 of a script with one byte more, which is all that is taken of it
abbrev pub too_long_text : List ℕ
too_long_text = line_of (refusals.TooLarge (codes "standard input") (script_limit + 1))

-- what a line does to the machine that shows this view
abbrev pub line_deed : Files → Line → Deed
line_deed view (Plain command) = one_deed view command
line_deed view (Part action) = action_deed view action
line_deed view (Numbered number command) = with_acknowledgement number (one_deed view command)
line_deed view (Unread number) = with_acknowledgement number (unread_deed 17 (no_command_text number) view)
line_deed view TooLong = unread_deed 3 too_long_text view

-- a line without a command
abbrev pub is_unread : Line → Bool
is_unread (Plain command) = false
is_unread (Part action) = false
is_unread (Numbered number command) = false
is_unread (Unread number) = true
is_unread TooLong = true

-- some line is a command
abbrev pub has_command : List Line → Bool
has_command [] = false
has_command (line ∷ lines) = not (is_unread line) || has_command lines

-- what a line leaves that the view doesn't show
abbrev pub TidiedBy : Files → Line → Type 0
TidiedBy files (Plain command) = LeavesTidied command files
TidiedBy files (Part action) = Unit {0}
TidiedBy files (Numbered number command) = LeavesTidied command files
TidiedBy files (Unread number) = Unit {0}
TidiedBy files TooLong = Unit {0}

-- nothing is changed but what is printed
pub record Prints (old new : State) : Type 0 where
  pub stays : new ≡ record old { printed = new.printed }
