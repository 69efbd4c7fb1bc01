-- What words that are refused come to as a plan.
use Rattle.std.proofs.Common.{◌≡◌, ℕ, List, Result, Ok, Err, refl, sym, ◌∙◌, subst, IfOk}
use Rattle.boot_base.specs.declared.refusal.Refusal.{Refusal}
use Rattle.boot_machine.specs.Prelude.{State, seen}
use Rattle.command_plans.specs.Prelude.{WordErrorFor, Says, ReadErrorFor, Answer, answer_of_read, answer_or_refusal, refusal, Plans, PlansAs, DeclinesWords, PlansWordError, PlansReadError, RefusesWords}
use Rattle.command_plans.specs.declared.word_error.WordError.{WordError}
use Rattle.command_plans.specs.declared.word_error.WordError.TheVariants as word_errors
use Rattle.command_plans.specs.declared.read_error.ReadError.{ReadError}
use Rattle.command_plans.specs.declared.read_error.ReadError.TheVariants as read_errors
use Rattle.command_plans.specs.declared.outcome.RunError.{RunError}
use Rattle.command_plans.specs.declared.plan.Plan.{Plan}

one_refusal : {W : Type 0} (read : Result W Refusal) (why other : Refusal) → read ≡ Err why → read ≡ Err other → why ≡ other
one_refusal read why other is same = cc (sym is ∙ same)

-- the refusal of the words is that of anything else that is meant by them
meant_too : {W X : Type 0} (read : Result W Refusal) (why : Refusal) (fault : ReadError) (meant : Result X Refusal) → read ≡ Err why → meant ≡ Err why
    → ReadErrorFor fault read → ReadErrorFor fault meant
meant_too read why read_errors.Memory meant is means for = tt
meant_too read why read_errors.Disk meant is means for = tt
meant_too read why (read_errors.Refused other) meant is means for = let same = one_refusal read why other is for in cc (same, means)

abbrev refuses : {X : Type 0} → Refusal → Result X Refusal
refuses why = Err why

-- of a command that only says something
pub said_words : {W X : Type 0} (read : Result W Refusal) (shown : X → List ℕ) (text : Result X ReadError) (result : Result Plan RunError)
    → IfOk result (λ plan. (s : State) (meant : Result (List ℕ) Refusal) → Says shown text meant → Plans s plan (answer_of_read (seen s) meant))
    → DeclinesWords read text → RefusesWords read result
said_words read shown text (Err stop) plans declines = λ why is. tt
said_words read shown (Ok bytes) (Ok plan) plans declines = λ why is. absurd (declines why is)
said_words read shown (Err fault) (Ok plan) plans declines = λ why is s. plans s (refuses why) (meant_too read why fault (refuses why) is refl (declines why is))

-- of a command that may change something
pub answered_words : {W : Type 0} (read : Result W Refusal) (planned : Result Plan ReadError) (result : Result Plan RunError)
    → IfOk result (λ plan. (s : State) (meant : Result Answer Refusal) → PlansAs s planned meant → Plans s plan (answer_or_refusal (seen s) meant))
    → DeclinesWords read planned → RefusesWords read result
answered_words read planned (Err stop) plans declines = λ why is. tt
answered_words read (Ok made) (Ok plan) plans declines = λ why is. absurd (declines why is)
answered_words read (Err fault) (Ok plan) plans declines = λ why is s. plans s (refuses why) (meant_too read why fault (refuses why) is refl (declines why is))

-- of words that are declined at once
pub word_error_planned : {W : Type 0} (read : Result W Refusal) (word_error : WordError) (plan : Plan) → WordErrorFor word_error read → PlansWordError word_error plan
    → (why : Refusal) → read ≡ Err why → PlansReadError (read_errors.Refused why) plan
word_error_planned read word_errors.Memory plan for plans why is = absurd plans
word_error_planned read (word_errors.Refused other) plan for plans why is = λ s. subst (λ (r : Refusal). Plans s plan (refusal (seen s) r)) (one_refusal read other why for is) (plans s)
