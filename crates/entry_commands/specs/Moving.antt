-- Boot files that get another name.
use Rattle.std.specs.Prelude.{◌≡◌}
use Rattle.boot_base.specs.Paths.{Path}
use Rattle.install_steps.specs.Steps.{IsIntentOf}
use Rattle.command_plans.specs.Makeable.{TellsGone, TellsThere}
use Rattle.command_plans.specs.declared.plan.Change.{Change}
use Rattle.command_plans.specs.declared.plan.Change.TheVariants.{Move}

-- the change is the move of the file at one path to another, under the intent, with the refusals of these paths
abbrev pub IsMove : Path → Path → Change → Type 0
IsMove one other (Move from to intent gone exists) =
    (from ≡ one) × (to ≡ other) × IsIntentOf one other intent × TellsGone one gone × TellsThere other exists
IsMove one other _ = ⊥
