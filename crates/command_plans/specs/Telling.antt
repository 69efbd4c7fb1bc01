-- What a plan may be told as on any machine, also on one that has changed its mind about a file.
use Rattle.std.specs.Prelude.{◌≡◌, ◌⊎◌}
use Rattle.command_plans.specs.declared.outcome.Outcome.{Outcome}
use Rattle.command_plans.specs.declared.outcome.Outcome.TheVariants as outcomes
use Rattle.command_plans.specs.declared.performing.Applied.{Applied}
use Rattle.command_plans.specs.declared.performing.Applied.TheVariants.{Done, Refused}
use Rattle.command_plans.specs.declared.plan.Change.{Change}
use Rattle.command_plans.specs.declared.plan.Change.TheVariants.{Nothing, Remove, Leftovers, Write, Put, Copy, Move}
use Rattle.command_plans.specs.declared.plan.Plan.{Plan}
use Rattle.command_plans.specs.declared.plan.RefusalLine.{RefusalLine}

-- the refusal is one of the lines that a change has with it
abbrev pub HasLine : Change → RefusalLine → Type 0
HasLine Nothing refusal = ⊥
HasLine (Remove path gone) refusal = refusal ≡ gone
HasLine (Leftovers temps) refusal = ⊥
HasLine (Write image sources target) refusal = ⊥
HasLine (Put target bytes) refusal = ⊥
HasLine (Copy from target gone) refusal = refusal ≡ gone
HasLine (Move from to intent gone exists) refusal = (refusal ≡ gone) ⊎ (refusal ≡ exists)

-- a change is made, or one of its own lines is to be printed
abbrev pub CanApply : Change → Applied → Type 0
CanApply change Done = Unit {0}
CanApply change (Refused refusal) = HasLine change refusal.now

-- the outcome is the plan's, or the refusal of one of its change's own lines
abbrev pub CanTell : Plan → Outcome → Type 0
CanTell plan outcome = (outcome ≡ plan.outcome)
    ⊎ ((refusal : RefusalLine) × HasLine plan.change refusal × (outcome ≡ outcomes.Refused refusal.number))
