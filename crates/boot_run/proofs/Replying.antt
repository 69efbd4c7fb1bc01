-- No reply is empty.
use Rattle.std.proofs.Common.{◌≢◌, ℕ, ◌<◌, List, [], ◌∷◌, ◌++◌, length, refl, arith}
use Rattle.boot_machine.specs.Prelude.{Files, on_channel, Sent}
use Rattle.boot_machine.specs.declared.machine.Channel.{Channel}
use Rattle.boot_machine.specs.declared.machine.Channel.TheVariants.{Out, Err as ErrChannel}
use Rattle.command_plans.specs.Prelude.{channel_of}
use Rattle.boot_commands.specs.Commands.{one_deed}
use Rattle.boot_commands.specs.Replies.{action_reply, one_reply}
use Rattle.boot_commands.proofs.Replies.{some_action, some_text}
use Rattle.boot_run.specs.Lines.{acknowledgement, line_deed, no_command_text, too_long_text}
use Rattle.boot_run.specs.Step.{NoneEmpty}
use Rattle.boot_run.specs.declared.line.Line.{Line}
use Rattle.boot_run.specs.declared.line.Line.TheVariants.{Plain, Part, Numbered, Unread, TooLong}

some_sent : (to : Channel) (text : List ℕ) → 0 < length text → on_channel to text ≢ []
some_sent to [] some = absurd (omega arith)
some_sent to (x ∷ text) some = λ is. cc

some_more : (a b : Sent) → a ≢ [] → a ++ b ≢ []
some_more [] b some = absurd (some refl)
some_more (x ∷ a) b some = λ is. cc

some_reply : (view : Files) (line : Line) → (line_deed view line).sent ≢ []
some_reply view (Plain command) = some_sent (channel_of (one_reply view command).outcome) (one_reply view command).text (some_text view command)
some_reply view (Part action) = some_sent (channel_of (action_reply view action).outcome) (action_reply view action).text (some_action view action)
some_reply view (Numbered number command) = some_more (one_deed view command).sent (on_channel Out (acknowledgement (one_deed view command).outcome number))
    (some_sent (channel_of (one_reply view command).outcome) (one_reply view command).text (some_text view command))
some_reply view (Unread number) = some_more _ _ (some_sent ErrChannel (no_command_text number) (omega arith))
some_reply view TooLong = some_sent ErrChannel too_long_text (omega arith)

pub none_empty : (view : Files) (lines : List Line) → NoneEmpty view lines
none_empty view [] = tt
none_empty view (line ∷ lines) = (some_reply view line, none_empty (line_deed view line).after lines)
