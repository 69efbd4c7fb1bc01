-- The ends of a run, the program's statuses, and what a status tells of.
use Rattle.std.specs.Prelude.{◌≡◌, ◌≢◌, ◌≤◌, ⊤, ℕ, zero, suc, Bool, true, false, List, [], drop, All, Result, Ok, Err}
use Rattle.boot_machine.specs.Counts.{Counts, DiskFailed, PipeFailed}
use Rattle.boot_machine.specs.Disk.{State}
use Rattle.boot_machine.specs.Sent.{Sent, IsPrefix}
use Rattle.command_plans.specs.Deeds.{End, Finished, NoMemory, DiskFails, PipeFails}
use Rattle.command_plans.specs.declared.outcome.RunError.{RunError}
use Rattle.command_plans.specs.declared.outcome.RunError.TheVariants as run_errors
use Rattle.tool_words.specs.declared.command.Command.{Command}
use Rattle.tool_words.specs.declared.fault.UsageReason.{UsageReason}
use Rattle.boot_run.specs.AskedLines.{taken_by}
use Rattle.boot_run.specs.Lines.{TidiedBy}
use Rattle.boot_run.specs.declared.line.Line.{Line}
use Rattle.boot_run.specs.declared.ended.Ended.{Ended}
use Rattle.boot_run.specs.declared.ended.Ended.TheVariants.{Done, Refused, Usage, Disk, Pipe, Memory}

-- the status that the program ends with
abbrev pub status_of : Ended → ℕ
status_of Done = 0
status_of Refused = 1
status_of Usage = 2
status_of Disk = 3
status_of Pipe = 4
status_of Memory = 5

-- the end that a status tells of
abbrev pub ended_of : ℕ → Ended
ended_of zero = Done
ended_of (suc zero) = Refused
ended_of (suc (suc zero)) = Usage
ended_of (suc (suc (suc zero))) = Disk
ended_of (suc (suc (suc (suc zero)))) = Pipe
ended_of (suc (suc (suc (suc (suc more))))) = Memory

-- the end that the lines of a run make of it: whether one was refused, or what stopped them
abbrev pub ended_by : Result Bool RunError → Ended
ended_by (Ok false) = Done
ended_by (Ok true) = Refused
ended_by (Err run_errors.Disk) = Disk
ended_by (Err run_errors.Pipe) = Pipe
ended_by (Err run_errors.Memory) = Memory

-- how the last command was left where a run ended so
abbrev pub end_at : Ended → End
end_at Done = Finished
end_at Refused = Finished
end_at Usage = Finished
end_at Disk = DiskFails
end_at Pipe = PipeFails
end_at Memory = NoMemory

-- 3 and 4 come only where their count rose, and every other status leaves both counts
abbrev pub HasCause : Ended → Counts → Counts → Type 0
HasCause Done old new = new ≡ old
HasCause Refused old new = new ≡ old
HasCause Usage old new = new ≡ old
HasCause Disk old new = DiskFailed old new
HasCause Pipe old new = PipeFailed old new
HasCause Memory old new = new ≡ old

-- 1 comes exactly where some reply is a refusal, and 2 not at all
abbrev pub AnswersRefusals : Bool → Ended → Type 0
AnswersRefusals any Done = any ≡ false
AnswersRefusals any Refused = any ≡ true
AnswersRefusals any Usage = ⊥
AnswersRefusals any Disk = ⊤
AnswersRefusals any Pipe = ⊤
AnswersRefusals any Memory = ⊤

-- 2 is the status of words that are no command, but for 4 and 5
abbrev pub AnswersUsage : Ended → Type 0
AnswersUsage Usage = ⊤
AnswersUsage Pipe = ⊤
AnswersUsage Memory = ⊤
AnswersUsage Done = ⊥
AnswersUsage Refused = ⊥
AnswersUsage Disk = ⊥

-- the status fits the words
abbrev pub FitsWords : Result Command UsageReason → Ended → Type 0
FitsWords (Ok command) ended = ended ≢ Usage
FitsWords (Err reason) ended = AnswersUsage ended

-- with 2 the whole usage line is printed, with 4 a part from its beginning, and with 5 nothing
abbrev pub PrintsUsage : Ended → Sent → Sent → Type 0
PrintsUsage Usage line part = part ≡ line
PrintsUsage Pipe line part = IsPrefix part line
PrintsUsage Memory line part = part ≡ []
PrintsUsage Done line part = ⊥
PrintsUsage Refused line part = ⊥
PrintsUsage Disk line part = ⊥

-- at 0 and 1
abbrev pub AtEnd : Ended → Type 0 → Type 0
AtEnd Done P = P
AtEnd Refused P = P
AtEnd Usage P = ⊤
AtEnd Disk P = ⊤
AtEnd Pipe P = ⊤
AtEnd Memory P = ⊤

-- at all but 3
abbrev pub UnlessDisk : Ended → Type 0 → Type 0
UnlessDisk Done P = P
UnlessDisk Refused P = P
UnlessDisk Usage P = P
UnlessDisk Disk P = ⊤
UnlessDisk Pipe P = P
UnlessDisk Memory P = P

-- no more of the input is taken than the words ask for, and at the end of the run so much
pub record TakesInput (meant : Result Command UsageReason) (ended : Ended) (old new : List ℕ) : Type 0 where
  pub count : ℕ
  pub most : count ≤ taken_by meant
  pub taken : new ≡ drop count old
  pub at_end : AtEnd ended (new ≡ drop (taken_by meant) old)

-- after these lines no temporary file is left in a folder that one of them tidied
abbrev pub AllTidied : List Line → State → Type 0
AllTidied lines s = All (TidiedBy s.files) lines
