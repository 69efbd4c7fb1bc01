-- Words that are declined, step by step.
use Rattle.std.proofs.Common.{◌≡◌, Result, Ok, Err, ap, sym, subst, IsErr, IsErrAnd}
use Rattle.boot_base.specs.declared.refusal.Refusal.{Refusal}
use Rattle.command_plans.specs.Prelude.{◌>>=◌, WordErrorFor, Means}
use Rattle.command_plans.specs.declared.word_error.WordError.{WordError}
use Rattle.command_plans.specs.declared.word_error.WordError.TheVariants.{Memory, Refused}

-- what is declined at the first step is declined
pub word_error_first : {A B : Type 0} (word_error : WordError) (first : Result A Refusal) (next : A → Result B Refusal) → WordErrorFor word_error first → WordErrorFor word_error (first >>= next)
word_error_first Memory first next is = tt
word_error_first (Refused why) first next is = ap (λ (r : Result _ Refusal). r >>= next) is

-- after a step that is done
pub word_error_next : {A B : Type 0} (word_error : WordError) (first : Result A Refusal) (a : A) (next : A → Result B Refusal) → first ≡ Ok a
    → WordErrorFor word_error (next a) → WordErrorFor word_error (first >>= next)
word_error_next word_error first a next done is = subst (WordErrorFor word_error) (sym (ap (λ (r : Result _ Refusal). r >>= next) done)) is

pub done_next : {A B : Type 0} (first : Result A Refusal) (a : A) (next : A → Result B Refusal) → first ≡ Ok a → (first >>= next) ≡ next a
done_next first a next done = ap (λ (r : Result _ Refusal). r >>= next) done

-- a call that was given up because of the words
pub means_word_error : {X Y : Type 0} (result : Result X WordError) (word_error : WordError) (view : X → Y) (meant : Result Y Refusal) → IsErr result
    → IsErrAnd result (λ e. e ≡ word_error) → WordErrorFor word_error meant → Means view result meant
means_word_error (Ok x) word_error view meant failed is why = cc
means_word_error (Err e) word_error view meant failed is why = subst (λ d. WordErrorFor d meant) (sym is) why
