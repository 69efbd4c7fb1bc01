-- The temporary files that a command of several actions takes away (profile).
use Rattle.std.specs.Prelude.{◌≡◌, Bool, true, false, List, [], ◌∷◌}
use Rattle.std.specs.FinMap.{get}
use Rattle.boot_base.specs.Paths.{Path, is_temp}
use Rattle.boot_machine.specs.Disk.{Files}
use Rattle.tool_words.specs.declared.action.Action.{Action}
use Rattle.tool_words.specs.declared.action.Action.TheVariants as action
use Rattle.tool_words.specs.declared.command.Several.{Several}
use Rattle.tool_words.specs.declared.command.Several.TheVariants as several
use Rattle.type1_install.specs.Sweeping.{FindsBeside, StandsBeside, SweptAt, payload_esp}

-- these actions are the refusal of a command
abbrev pub begins_refused : List Action → Bool
begins_refused (action.Refuse why ∷ actions) = true
begins_refused actions = false

-- this temporary file goes with the command: with a cleanup those beside payloads of its ESP
abbrev pub MaySweep : Several → Path → Type 0
MaySweep (several.Type1Cleanup word) q = StandsBeside (payload_esp word) q
MaySweep c q = ⊥

-- those that go with the command, if it isn't refused, are among these
abbrev pub FindsSwept : Several → List Action → Files → List Path → Type 0
FindsSwept (several.Type1Cleanup word) actions files temps =
    begins_refused actions ≡ false → FindsBeside (payload_esp word) files temps
FindsSwept c actions files temps = Unit {0}

-- none is left that goes with the command, if it isn't refused
abbrev pub SweptBy : Several → List Action → Files → Type 0
SweptBy (several.Type1Cleanup word) actions files =
    begins_refused actions ≡ false → SweptAt (payload_esp word) files
SweptBy c actions files = Unit {0}

-- each temporary file that doesn't go with the command is as it was
abbrev pub KeepsUnswept : Several → Files → Files → Type 0
KeepsUnswept c old new = (q : Path) → is_temp q ≡ true → (MaySweep c q → ⊥) → get new q ≡ get old q
