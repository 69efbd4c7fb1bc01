-- What the commands answer that an installation with payloads is made of: a file's bytes are put at the place of their
-- payload, and an entry is entered (profile).
use Rattle.std.specs.Prelude.{◌≡◌, ℕ, ◌*◌, List, ◌++◌, codes, length, nat_eq, Some, Result, Ok, if◌then◌else◌}
use Rattle.std.specs.FinMap.{get, insert}
use Rattle.boot_base.specs.Paths.{Path}
use Rattle.boot_base.specs.declared.refusal.Refusal.{Refusal}
use Rattle.boot_machine.specs.Disk.{Files}
use Rattle.boot_machine.specs.Rows.{contents}
use Rattle.command_plans.specs.Answers.{Answer, answer_or_refusal, done_answer}
use Rattle.command_plans.specs.Changes.{installed_text}
use Rattle.command_plans.specs.WordErrors.{◌>>=◌, printed_path}
use Rattle.command_plans.specs.Files.{bytes_at}
use Rattle.command_plans.specs.declared.plan.Change.{Change}
use Rattle.command_plans.specs.declared.plan.Change.TheVariants.{Nothing}

-- what is told of the path of a payload
abbrev pub payload_text : Path → List ℕ
payload_text target = codes "placed " ++ (printed_path target ++ codes "\n")

-- the file's bytes come to stand at the target too, or the refusal of the file
abbrev pub put_result : Files → Path → Path → Result Answer Refusal
put_result view file target =
    bytes_at view file >>= λ bytes. Ok (done_answer (insert view target bytes) (payload_text target))

-- what is answered of a payload
abbrev pub put_answer : Files → Path → Path → Answer
put_answer view file target = answer_or_refusal view (put_result view file target)

-- a file whose bytes stand at the target already isn't written again
abbrev pub LeavesStanding : Files → Path → Path → Change → Type 0
LeavesStanding view file target change =
    (bytes : List ℕ) → get view file ≡ Some bytes → get view target ≡ Some bytes → change ≡ Nothing

-- how many bytes of files are read to tell whether a file's bytes stand at the target already, at most: each of both once if
-- they have the same length, and none else
abbrev pub comparing_length : Files → Path → Path → ℕ
comparing_length view file target =
    if nat_eq (length (contents view file)) (length (contents view target)) then 2 * length (contents view file)
    else 0

-- an entry's text comes to stand at a path
abbrev pub enter_answer : Files → Path → List ℕ → Answer
enter_answer view path text = done_answer (insert view path text) (installed_text path)
