-- The actions of a command of several (profile).
use Rattle.std.specs.Prelude.{ℕ, Bool, true, false, List, [], ◌∷◌, codes, map, Result, Ok, Err}
use Rattle.boot_base.specs.Paths.{Path}
use Rattle.boot_base.specs.declared.refusal.Refusal.{Refusal}
use Rattle.boot_machine.specs.Disk.{Files}
use Rattle.tool_words.specs.declared.command.Several.{Several}
use Rattle.tool_words.specs.declared.command.Several.TheVariants as several
use Rattle.tool_words.specs.declared.action.Action.{Action}
use Rattle.tool_words.specs.declared.action.Action.TheVariants as action
use Rattle.entry_commands.specs.Keeping.{keep_result, would_text}
use Rattle.type1_install.specs.Cleaning.{cleanup_expansion}
use Rattle.type1_install.specs.Installing.{install_expansion}
use Rattle.boot_commands.specs.Demonstration.{demo_result}

-- the actions that are made of what was found, or the one that refuses the command
abbrev pub actions_or_refusal : {A : Type 0} → (A → List Action) → Result A Refusal → List Action
actions_or_refusal made (Ok found) = made found
actions_or_refusal made (Err why) = action.Refuse why ∷ []

-- the actions of a cleanup, or that there is nothing to do
abbrev pub clean_or_idle : List Action → List Action
clean_or_idle [] = action.Tell (codes "nothing to clean\n") ∷ []
clean_or_idle (first ∷ more) = first ∷ more

-- the actions of a `keep` that found these files: each is removed, or it is only told which would be
abbrev pub keep_actions : Bool → List Path → List Action
keep_actions true paths = action.Tell (would_text paths) ∷ []
keep_actions false [] = action.Tell (would_text []) ∷ []
keep_actions false (path ∷ paths) = map action.Remove (path ∷ paths)

-- the actions of a command on a view, of which there is at least one
unfoldable pub expansion : Files → Several → List Action
expansion view (several.Type1Install words) = actions_or_refusal (λ actions. actions) (install_expansion view words)
expansion view (several.Type1Cleanup esp) = actions_or_refusal clean_or_idle (cleanup_expansion view esp)
expansion view (several.Keep words) = actions_or_refusal (keep_actions words.dry_run) (keep_result view words)
expansion view (several.Demo seed count) = actions_or_refusal (λ text. action.Tell text ∷ []) (demo_result seed count)
