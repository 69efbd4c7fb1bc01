-- What is found of a command of several actions.
use Rattle.std.specs.Prelude.{◌≡◌, ◌≢◌, ℕ, false, List, [], ◌∷◌}
use Rattle.boot_machine.specs.Disk.{Files, State}
use Rattle.boot_machine.specs.Sent.{seen}
use Rattle.tool_words.specs.declared.command.Several.{Several}
use Rattle.tool_words.specs.declared.command.Several.TheVariants as several
use Rattle.tool_words.specs.declared.action.Action.{Action}
use Rattle.tool_words.specs.declared.action.Action.TheVariants as action
use Rattle.command_plans.specs.Answers.{is_refusal}
use Rattle.command_plans.specs.Folders.{folders_of}
use Rattle.command_plans.specs.Menus.{menu_limit}
use Rattle.command_plans.specs.declared.read_error.ReadError.{ReadError}
use Rattle.command_plans.specs.declared.read_error.ReadError.TheVariants as read_errors
use Rattle.type1_install.specs.Installing.{install_plan, installing_length}
use Rattle.boot_commands.specs.Expansions.{expansion}
use Rattle.boot_commands.specs.Replies.{action_reply}

-- none of these actions is refused, if they are done one after the other from this view on
abbrev pub NoneRefused : Files → List Action → Type 0
NoneRefused view [] = Unit {0}
NoneRefused view (one ∷ actions) =
    (is_refusal (action_reply view one).outcome ≡ false) × NoneRefused (action_reply view one).after actions

-- The command is refused, which is its one action, or none of its actions is.
abbrev pub RefusedOrDone : Files → List Action → Type 0
RefusedOrDone view (action.Refuse why ∷ []) = Unit {0}
RefusedOrDone view actions = NoneRefused view actions

-- it is the one action that refuses the command for this reason; there is none if memory ran out or the disk failed
abbrev pub RefusesReadError : ReadError → List Action → Type 0
RefusesReadError read_errors.Memory actions = ⊥
RefusesReadError read_errors.Disk actions = ⊥
RefusesReadError (read_errors.Refused why) actions = actions ≡ action.Refuse why ∷ []

-- On what boot sees in this state these are the actions of the command.
pub record StandsFor (s : State) (c : Several) (actions : List Action) : Type 0 where
  pub are : actions ≡ expansion (seen s) c
  pub some : actions ≢ []
  pub unrefused : RefusedOrDone (seen s) actions

-- how many bytes of files are read to find the actions of a command, at most: the files of an installation, and for a
-- cleanup and a `keep` what the menu takes
abbrev pub expanding_length : State → Several → ℕ
expanding_length s (several.Type1Install words) = installing_length (seen s) (install_plan words)
expanding_length s (several.Type1Cleanup esp) = menu_limit s.files (folders_of esp)
expanding_length s (several.Keep words) = menu_limit s.files (folders_of words.esp)
expanding_length s (several.Demo seed count) = 0
