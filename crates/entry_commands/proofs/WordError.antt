-- What words that are declined at once come to.
use Rattle.std.proofs.Common.{◌≡◌, true, [], Result, Ok, Err, refl, sym, ap, subst, All, IfOk}
use Rattle.std.proofs.lemmas.List.Elements.{All-nil}
use Rattle.boot_base.specs.declared.refusal.Refusal.{Refusal}
use Rattle.boot_machine.specs.Prelude.{Files, State, seen}
use Rattle.boot_entries.specs.declared.folders.Folders.{Folders}
use Rattle.command_plans.specs.Prelude.{WordErrorFor, read_error_of_words, Answer, is_refusal, changes_nothing, Drops, Plans, own_temps, PlansWordError, PlansReadError, RefusesWords, unless_refused}
use Rattle.command_plans.specs.declared.word_error.WordError.{WordError}
use Rattle.command_plans.specs.declared.word_error.WordError.TheVariants as word_errors
use Rattle.command_plans.specs.declared.read_error.ReadError.{ReadError}
use Rattle.command_plans.specs.declared.outcome.RunError.{RunError}
use Rattle.command_plans.specs.declared.plan.Change.{Change}
use Rattle.command_plans.specs.declared.plan.Change.TheVariants.{Nothing, Remove, Leftovers, Write, Put, Copy, Move}
use Rattle.command_plans.specs.declared.plan.Plan.{Plan}
use Rattle.command_plans.proofs.Worded.{word_error_planned}
use Rattle.entry_commands.specs.Tidying.{CleanAt, StandsAt}

-- the plan is that of the refusal
as_word_error : (word_error : WordError) (fault : ReadError) (plan : Plan) → fault ≡ read_error_of_words word_error → PlansReadError fault plan → PlansWordError word_error plan
as_word_error word_errors.Memory fault plan is plans = subst (λ (f : ReadError). PlansReadError f plan) is plans
as_word_error (word_errors.Refused why) fault plan is plans = subst (λ (f : ReadError). PlansReadError f plan) is plans

unless_word_error : {X : Type 0} (s : State) (read : Result X Refusal) (next : X → Answer) (word_error : WordError) (plan : Plan) → WordErrorFor word_error read → PlansWordError word_error plan
    → Plans s plan (unless_refused (seen s) read next)
unless_word_error s read next word_errors.Memory plan why plans = absurd plans
unless_word_error s read next (word_errors.Refused other) plan why plans = subst (λ (r : Result _ Refusal). Plans s plan (unless_refused (seen s) r next)) (sym why) (plans s)

clean_word_error : (files : Files) (read : Result Folders Refusal) (word_error : WordError) (plan : Plan) → WordErrorFor word_error read → PlansWordError word_error plan → CleanAt files read
clean_word_error files read word_errors.Memory plan why plans = absurd plans
clean_word_error files read (word_errors.Refused other) plan why plans = subst (CleanAt files) (sym why) tt

module _ {X : Type 0} (read : Result X Refusal) (word_error : WordError) (fault : ReadError) (result : Result Plan RunError) where
  pub plans_unless : (Told : Type 0) (s : State) (next : X → Answer) → fault ≡ read_error_of_words word_error → WordErrorFor word_error read → IfOk result (PlansReadError fault)
      → IfOk result (λ plan. Told → Plans s plan (unless_refused (seen s) read next))
  plans_unless Told s next is why plans = by_result result plans
    where
      by_result : (result : Result Plan RunError) → IfOk result (PlansReadError fault) → IfOk result (λ plan. Told → Plans s plan (unless_refused (seen s) read next))
      by_result (Ok plan) plans = λ told. unless_word_error s read next word_error plan why (as_word_error word_error fault plan is plans)
      by_result (Err stop) plans = tt

  pub refuses_at_once : fault ≡ read_error_of_words word_error → WordErrorFor word_error read → IfOk result (PlansReadError fault) → RefusesWords read result
  refuses_at_once is why plans = by_result result plans
    where
      by_result : (result : Result Plan RunError) → IfOk result (PlansReadError fault) → RefusesWords read result
      by_result (Ok plan) plans = word_error_planned read word_error plan why (as_word_error word_error fault plan is plans)
      by_result (Err stop) plans = λ _ _. tt

-- nothing is to be tidied where the word has no folders
pub tidied_unless : (read : Result Folders Refusal) (word_error : WordError) (fault : ReadError) (result : Result Plan RunError) (Told : Type 0) (old : Files)
    → fault ≡ read_error_of_words word_error → WordErrorFor word_error read
    → IfOk result (PlansReadError fault) → IfOk result (λ plan. Told → (files : Files) → Drops plan.change old files → CleanAt files read)
tidied_unless read word_error fault (Ok plan) Told old is why plans = λ told files dropped. clean_word_error files read word_error plan why (as_word_error word_error fault plan is plans)
tidied_unless read word_error fault (Err stop) Told old is why plans = tt

-- a change of nothing has no temporary file
own_none : (change : Change) → changes_nothing change ≡ true → own_temps change ≡ []
own_none Nothing is = refl
own_none (Remove path gone) is = cc
own_none (Leftovers temps) is = cc
own_none (Write image sources target) is = cc
own_none (Put target bytes) is = cc
own_none (Copy from target gone) is = cc
own_none (Move from to intent gone exists) is = cc

none_word_error : (s : State) (word_error : WordError) (plan : Plan) → PlansWordError word_error plan → own_temps plan.change ≡ []
none_word_error s word_errors.Memory plan plans = absurd plans
none_word_error s (word_errors.Refused other) plan plans =
    own_none plan.change (plan.idle (ap (λ (answer : Answer). is_refusal answer.outcome) (plans s).answer_is))

-- and no temporary file is dropped
pub within_unless : (read : Result Folders Refusal) (word_error : WordError) (fault : ReadError) (result : Result Plan RunError) (Told : Type 0) (s : State) → fault ≡ read_error_of_words word_error
    → IfOk result (PlansReadError fault) → IfOk result (λ plan. Told → All (StandsAt read) (own_temps plan.change))
within_unless read word_error fault (Ok plan) Told s is plans =
    λ told. subst (All (StandsAt read)) (sym (none_word_error s word_error plan (as_word_error word_error fault plan is plans))) (All-nil (StandsAt read))
within_unless read word_error fault (Err stop) Told s is plans = tt
