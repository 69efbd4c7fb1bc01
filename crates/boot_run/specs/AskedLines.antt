-- What the words and standard input ask for: the lines of the run, or why the words are no command.
use Rattle.std.specs.Prelude.{ℕ, suc, ◌+◌, ◌==◌, Bool, true, not, ◌&&◌, List, [], ◌∷◌, ◌++◌, codes, length, map, take, nat_lt, Option, Some, None, Result, Ok, Err, if◌then◌else◌}
use Rattle.std.specs.List.{slice_split}
use Rattle.std.specs.Str.{chars, is_utf8}
use Rattle.boot_machine.specs.Disk.{Files, State}
use Rattle.boot_machine.specs.Sent.{latest_view, recovered_views}
use Rattle.word_grammar.specs.Grammar.{Word}
use Rattle.tool_words.specs.Line.{is_open, line_words}
use Rattle.tool_words.specs.Meaning.{meaning}
use Rattle.tool_words.specs.Reasons.{usage_reason_text}
use Rattle.tool_words.specs.declared.command.Command.{Command}
use Rattle.tool_words.specs.declared.command.Command.TheVariants as command
use Rattle.tool_words.specs.declared.command.One.{One}
use Rattle.tool_words.specs.declared.fault.UsageReason.{UsageReason}
use Rattle.boot_commands.specs.Expansions.{expansion}
use Rattle.boot_run.specs.Lines.{script_limit}
use Rattle.boot_run.specs.declared.line.Line.{Line}
use Rattle.boot_run.specs.declared.line.Line.TheVariants.{Plain, Part, Numbered, Unread, TooLong}

-- a command that may stand in a script: one of one action
abbrev pub in_script : Result Command UsageReason → Option One
in_script (Ok (command.One c)) = Some c
in_script meant = None

-- the command of a script's line: its bytes are UTF-8, its quotes are even in number, and its words are a command
abbrev pub command_in : List ℕ → Option One
command_in piece =
    if is_utf8 piece && not (is_open (chars piece)) then in_script (meaning (line_words (chars piece))) else None

-- the line of that number: a command, or one that is no command
abbrev pub line_at : ℕ → Option One → Line
line_at number None = Unread number
line_at number (Some c) = Numbered number c

-- a piece that is no line: it is empty, or begins with `#`
abbrev pub is_passed_over : List ℕ → Bool
is_passed_over [] = true
is_passed_over (first ∷ rest) = first == 35

-- the lines among these pieces, which are numbered from the first one's number on
abbrev pub lines_from : ℕ → List (List ℕ) → List Line
lines_from number [] = []
lines_from number (piece ∷ pieces) =
    (if is_passed_over piece then [] else line_at number (command_in piece) ∷ []) ++ lines_from (suc number) pieces

-- the byte that ends a line of a script
abbrev pub is_script_newline : ℕ → Bool
is_script_newline byte = byte == 10

-- the lines of a script: what stands between its newlines, numbered from 1
abbrev pub script_lines : List ℕ → List Line
script_lines bytes = lines_from 1 (slice_split is_script_newline bytes)

-- the lines of the script on standard input, or the one refusal of a script that is too long
abbrev pub lines_in : List ℕ → List Line
lines_in input = if nat_lt script_limit (length input) then TooLong ∷ [] else script_lines input

-- the lines of a command: those of the script, one of its own, or on this view one for each of its actions
abbrev pub lines_for : List ℕ → Files → Command → List Line
lines_for input view command.Script = lines_in (take (script_limit + 1) input)
lines_for input view (command.One c) = Plain c ∷ []
lines_for input view (command.Several c) = map Part (expansion view c)

-- the lines that a run's words stand for on this view, or why they are no command
abbrev pub lines_to_run : List ℕ → Files → Result Command UsageReason → Result (List Line) UsageReason
lines_to_run input view (Err reason) = Err reason
lines_to_run input view (Ok c) = Ok (lines_for input view c)

-- What a run is to do: the lines of its words, asked at what boot sees at its start.
abbrev pub asked_lines : List Word → List ℕ → Files → Result (List Line) UsageReason
asked_lines words input view = lines_to_run input view (meaning words)

-- the lines of a command on a machine in this state
abbrev pub lines_at : State → Command → List Line
lines_at s c = lines_for s.input (latest_view (recovered_views s)) c

-- the lines that a run's words stand for on a machine in this state, or why they are no command
abbrev pub asked_lines_of : List Word → State → Result (List Line) UsageReason
asked_lines_of words s = asked_lines words s.input (latest_view (recovered_views s))

-- how much a run that comes to its end takes of standard input
abbrev pub taken_by : Result Command UsageReason → ℕ
taken_by (Ok command.Script) = script_limit + 1
taken_by meant = 0

-- the line for words that are no command
abbrev pub usage_line : UsageReason → List ℕ
usage_line reason = codes "usage: " ++ (usage_reason_text reason ++ codes "\n")
