-- Changes that several commands make: a file comes to stand at another path too, or goes.
use Rattle.std.specs.Prelude.{◌≡◌, ℕ, List, ◌++◌, codes, Option, Some, None}
use Rattle.std.specs.FinMap.{get, remove}
use Rattle.boot_base.specs.Paths.{Path}
use Rattle.boot_base.specs.declared.refusal.Refusal.TheVariants as refusals
use Rattle.boot_machine.specs.Disk.{Files}
use Rattle.command_plans.specs.Answers.{Answer, refusal, done_answer}
use Rattle.command_plans.specs.WordErrors.{printed_path}
use Rattle.command_plans.specs.Makeable.{TellsGone}
use Rattle.command_plans.specs.declared.plan.Change.{Change}
use Rattle.command_plans.specs.declared.plan.Change.TheVariants.{Copy}

-- the change is the copy of the file at one path to another, with the refusal of the first
abbrev pub IsCopy : Path → Path → Change → Type 0
IsCopy one other (Copy from target gone) = (from ≡ one) × (target.path ≡ other) × TellsGone one gone
IsCopy one other _ = ⊥

-- what is told of the path of an entry that was installed
abbrev pub installed_text : Path → List ℕ
installed_text path = codes "installed " ++ (printed_path path ++ codes "\n")

-- what is told of the path of a file that was removed
abbrev pub unlinked_text : Path → List ℕ
unlinked_text path = codes "unlinked " ++ (printed_path path ++ codes "\n")

-- the file at the path goes, if one is there
abbrev pub removal : Files → Path → Option (List ℕ) → Answer
removal view path None = refusal view (refusals.NotFound (printed_path path))
removal view path (Some bytes) = done_answer (remove view path) (unlinked_text path)

-- what the removal of the file at a path answers
abbrev pub unlink_answer : Files → Path → Answer
unlink_answer view path = removal view path (get view path)
