-- Refusals as answers and as plans.
use Rattle.std.specs.Prelude.{◌≡◌, Result, Ok, Err, IfOk, MatchResult}
use Rattle.boot_base.specs.declared.refusal.Refusal.{Refusal}
use Rattle.boot_machine.specs.Disk.{Files, State}
use Rattle.boot_machine.specs.Sent.{seen}
use Rattle.command_plans.specs.declared.word_error.WordError.{WordError}
use Rattle.command_plans.specs.declared.word_error.WordError.TheVariants as word_errors
use Rattle.command_plans.specs.ReadErrors.{ReadErrorFor}
use Rattle.command_plans.specs.declared.read_error.ReadError.{ReadError}
use Rattle.command_plans.specs.declared.read_error.ReadError.TheVariants as read_errors
use Rattle.command_plans.specs.Answers.{Answer, refusal}
use Rattle.command_plans.specs.Plans.{Plans}
use Rattle.command_plans.specs.declared.outcome.RunError.{RunError}
use Rattle.command_plans.specs.declared.plan.Plan.{Plan}

-- refused for the words alone, or what comes next on the view
abbrev pub unless_refused : {X : Type 0} → Files → Result X Refusal → (X → Answer) → Answer
unless_refused view (Err why) next = refusal view why
unless_refused view (Ok x) next = next x

-- the plan is that of the refusal
abbrev pub PlansWordError : WordError → Plan → Type 0
PlansWordError word_errors.Memory plan = ⊥
PlansWordError (word_errors.Refused why) plan = (s : State) → Plans s plan (refusal (seen s) why)

-- the plan is that of the refusal
abbrev pub PlansReadError : ReadError → Plan → Type 0
PlansReadError read_errors.Memory plan = ⊥
PlansReadError read_errors.Disk plan = ⊥
PlansReadError (read_errors.Refused why) plan = (s : State) → Plans s plan (refusal (seen s) why)

-- Where what was read of the words is a refusal, this refusal alone is said, whatever a machine tells, unless memory
-- ran out or the disk failed.
abbrev pub DeclinesWords : {W X : Type 0} → Result W Refusal → Result X ReadError → Type 0
DeclinesWords read result =
    (why : Refusal) → read ≡ Err why → MatchResult result (λ _. ⊥) (λ read_error. ReadErrorFor read_error read)

-- the plan of such words is that of the refusal on every state
abbrev pub RefusesWords : {W : Type 0} → Result W Refusal → Result Plan RunError → Type 0
RefusesWords read result = (why : Refusal) → read ≡ Err why → IfOk result (PlansReadError (read_errors.Refused why))
