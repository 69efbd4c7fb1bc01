-- A command of several actions is done whole, or it is refused, which is its one line.
use Rattle.std.specs.Prelude.{◌≡◌, ◌⊎◌, false, List, [], ◌∷◌, map}
use Rattle.boot_base.specs.declared.refusal.Refusal.{Refusal}
use Rattle.boot_machine.specs.Disk.{Files}
use Rattle.tool_words.specs.declared.command.Several.{Several}
use Rattle.tool_words.specs.declared.action.Action.{Action}
use Rattle.tool_words.specs.declared.action.Action.TheVariants as action
use Rattle.boot_commands.specs.Expansions.{expansion}
use Rattle.boot_run.specs.Step.{some_refused}
use Rattle.boot_run.specs.UpToRefused.{up_to_refused}
use Rattle.boot_run.specs.declared.line.Line.TheVariants.{Part}

-- these are the one action that refuses a command
abbrev pub IsRefusalAlone : List Action → Type 0
IsRefusalAlone actions = (why : Refusal) × (actions ≡ action.Refuse why ∷ [])

-- The command is refused on this view, or none of its actions is, if they are done one after the other.
abbrev pub ExpansionUnrefusedLaw : Type 0
ExpansionUnrefusedLaw =
    (view : Files) (c : Several) → IsRefusalAlone (expansion view c)
    ⊎ (some_refused view (map Part (expansion view c)) ≡ false)

-- so what a run of them does up to the first refused one is all
abbrev pub WholeExpansionLaw : Type 0
WholeExpansionLaw =
    (view : Files) (c : Several) → up_to_refused view (map Part (expansion view c)) ≡ map Part (expansion view c)
