-- What a command comes to on a view: the boot files without the temporary ones.
use Rattle.std.specs.Prelude.{ℕ, Bool, true, false, List, Result, Ok, Err}
use Rattle.boot_base.specs.Refusals.{number_of, line_of}
use Rattle.boot_base.specs.declared.refusal.Refusal.{Refusal}
use Rattle.boot_machine.specs.Disk.{Files}
use Rattle.boot_machine.specs.declared.machine.Channel.{Channel}
use Rattle.boot_machine.specs.declared.machine.Channel.TheVariants as channels
use Rattle.command_plans.specs.declared.outcome.Outcome.{Outcome}
use Rattle.command_plans.specs.declared.outcome.Outcome.TheVariants.{Done, Refused}

-- whether a command was refused
abbrev pub is_refusal : Outcome → Bool
is_refusal Done = false
is_refusal (Refused number) = true

-- where a reply goes: a refusal to Err, every other to Out
abbrev pub channel_of : Outcome → Channel
channel_of Done = channels.Out
channel_of (Refused number) = channels.Err

-- whether the command is refused, the view after it, and the text of its reply
pub record Answer : Type 0 where
  pub outcome : Outcome
  pub after : Files
  pub text : List ℕ

-- a refusal: the view stays, and its line is the reply
abbrev pub refusal : Files → Refusal → Answer
refusal view why = record { outcome = Refused (number_of why); after = view; text = line_of why }

-- a command that is done
abbrev pub done_answer : Files → List ℕ → Answer
done_answer after text = record { outcome = Done; after = after; text = text }

-- what a command says that changes nothing: its text, or the refusal
abbrev pub answer_of_read : Files → Result (List ℕ) Refusal → Answer
answer_of_read view (Ok text) = done_answer view text
answer_of_read view (Err why) = refusal view why

-- what a command comes to that may be refused
abbrev pub answer_or_refusal : Files → Result Answer Refusal → Answer
answer_or_refusal view (Ok answer) = answer
answer_or_refusal view (Err why) = refusal view why
