-- What stays of a command once it is done.
use Rattle.std.proofs.Common.{inl, inr, ◌∷◌, [], Result, Ok, Err}
use Rattle.std.proofs.lemmas.Bool.{cases_Bool}
use Rattle.boot_base.specs.Paths.{Path, under}
use Rattle.boot_base.specs.declared.refusal.Refusal.{Refusal}
use Rattle.boot_base.proofs.Temp.{is_temp-behind}
use Rattle.boot_machine.specs.Prelude.{State, has}
use Rattle.install_steps.specs.Steps.{NoNewTemp}
use Rattle.tool_words.specs.declared.command.One.{One}
use Rattle.tool_words.specs.declared.command.One.TheVariants as one
use Rattle.boot_commands.specs.Commands.{LeavesTidied}
use Rattle.command_plans.specs.Prelude.{folders_of}
use Rattle.entry_commands.specs.Tidying.{CleanAt, IsClean}
use Rattle.boot_entries.specs.declared.folders.Folders.{Folders}

-- a folder stays clean where no temporary file comes
clean_later : (s now : State) (folder : Path) → NoNewTemp s now → IsClean s.files folder → IsClean now.files folder
clean_later s now folder none clean name is_name temp = elim (cases_Bool (has now.files (under folder name))) [
  | inl there ↦ absurd (cc (none (under folder name) (is_temp-behind folder (47 ∷ name) (is_temp-behind (47 ∷ []) name temp)) there, clean name is_name temp))
  | inr gone ↦ gone
]

pub tidied_later : (s now : State) (c : One) → NoNewTemp s now → LeavesTidied c s.files → LeavesTidied c now.files
tidied_later s now (one.Tidy esp) none tidied = by_folders (folders_of esp) tidied
  where
    by_folders : (read : Result Folders Refusal) → CleanAt s.files read → CleanAt now.files read
    by_folders (Err why) clean = tt
    by_folders (Ok folders) clean = (clean_later s now folders.entries none clean.0, clean_later s now folders.images none clean.1)
tidied_later s now c none tidied = tt
