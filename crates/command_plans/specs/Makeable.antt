-- What is true of every plan: its change can be made, a refused command changes nothing, and who drops temporary files
-- says so.
use Rattle.std.specs.Prelude.{◌≡◌, ℕ, Bool, true, false, List, bytes_eq, codes}
use Rattle.std.specs.List.{IsDistinct}
use Rattle.boot_base.specs.Paths.{Path}
use Rattle.boot_base.specs.Refusals.{line_of, number_of}
use Rattle.boot_base.specs.declared.refusal.Refusal.{Refusal}
use Rattle.boot_base.specs.declared.refusal.Refusal.TheVariants as refusals
use Rattle.install_steps.specs.Steps.{IsIntentOf}
use Rattle.command_plans.specs.Answers.{is_refusal}
use Rattle.command_plans.specs.WordErrors.{printed_path}
use Rattle.command_plans.specs.declared.outcome.Outcome.{Outcome}
use Rattle.command_plans.specs.declared.plan.Change.{Change}
use Rattle.command_plans.specs.declared.plan.Change.TheVariants.{Nothing, Remove, Leftovers, Write, Put, Copy, Move}
use Rattle.command_plans.specs.declared.plan.RefusalLine.{RefusalLine}

-- what is printed is this refusal
abbrev pub IsLineOf : Refusal → RefusalLine → Type 0
IsLineOf why refusal = (refusal.number ≡ number_of why) × (refusal.line ≡ line_of why)

-- what is printed where a machine has no file at the path any more, though it has told of one
abbrev pub TellsGone : Path → RefusalLine → Type 0
TellsGone path = IsLineOf (refusals.NotFound (printed_path path))

-- what is printed where a machine has a file at the path, though it has told of none
abbrev pub TellsThere : Path → RefusalLine → Type 0
TellsThere path = IsLineOf (refusals.TargetExists (printed_path path))

-- The change can be made on any machine: a move's intent names its two paths, the temporary files to be dropped
-- differ, and a machine that has changed its mind about a file gets the refusal of that file's path.
abbrev pub IsMakeable : Change → Type 0
IsMakeable Nothing = Unit {0}
IsMakeable (Remove path gone) = TellsGone path gone
IsMakeable (Leftovers temps) = IsDistinct bytes_eq temps.items
IsMakeable (Write image sources target) = Unit {0}
IsMakeable (Put target bytes) = Unit {0}
IsMakeable (Copy from target gone) = TellsGone from gone
IsMakeable (Move from to intent gone exists) =
    IsIntentOf from to intent × TellsGone from gone × TellsThere to exists

-- whether it is no change
abbrev pub changes_nothing : Change → Bool
changes_nothing Nothing = true
changes_nothing (Remove path gone) = false
changes_nothing (Leftovers temps) = false
changes_nothing (Write image sources target) = false
changes_nothing (Put target bytes) = false
changes_nothing (Copy from target gone) = false
changes_nothing (Move from to intent gone exists) = false

-- a refused command changes nothing, and leaves temporary files where they are
abbrev pub IsIdleIfRefused : Outcome → Change → Type 0
IsIdleIfRefused outcome change = is_refusal outcome ≡ true → changes_nothing change ≡ true

-- whether the change drops the temporary files of others
abbrev pub drops_temps : Change → Bool
drops_temps Nothing = false
drops_temps (Remove path gone) = false
drops_temps (Leftovers temps) = true
drops_temps (Write image sources target) = false
drops_temps (Put target bytes) = false
drops_temps (Copy from target gone) = false
drops_temps (Move from to intent gone exists) = false

-- the reply of the command that drops them
abbrev pub cleaned_text : List ℕ
cleaned_text = codes "cleaned\n"

-- who drops them says so
abbrev pub SaysCleaned : Change → List ℕ → Type 0
SaysCleaned change text = drops_temps change ≡ true → bytes_eq text cleaned_text ≡ true
