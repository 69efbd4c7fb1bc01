-- Steps that are done, and what a command leaves that may be refused.
use Rattle.std.proofs.Common.{◌≡◌, ℕ, Bool, true, false, List, Some, None, Result, Ok, Err, refl}
use Rattle.boot_base.specs.declared.refusal.Refusal.{Refusal}
use Rattle.boot_machine.specs.Prelude.{Files}
use Rattle.command_plans.specs.Prelude.{Answer, answer_of_read, answer_or_refusal, ◌>>=◌}

-- what a step that is done went through
pub done_by : {A B : Type 0} (first : Result A Refusal) (next : A → Result B Refusal) (b : B) → (first >>= next) ≡ Ok b
    → (a : A) × (first ≡ Ok a) × (next a ≡ Ok b)
done_by (Ok a) next b is = (a, refl, is)
done_by (Err why) next b is = cc

pub ok_is : {A : Type 0} (a b : A) → ◌≡◌ {A = Result A Refusal} (Ok a) (Ok b) → a ≡ b
ok_is a b is = cc

pub err_ok : {A : Type 0} (why : Refusal) (a : A) → ◌≡◌ {A = Result A Refusal} (Err why) (Ok a) → ⊥
err_ok why a is = cc

pub none_some : {A : Type 0} (a : A) → None ≡ Some a → ⊥
none_some a is = cc

pub clash : {b : Bool} → b ≡ true → b ≡ false → ⊥
clash is is_not = cc

-- a command that may be refused leaves what its answer does, or the view
pub after_answered : (P : Files → Type 0) (view : Files) (meant : Result Answer Refusal) → P view
    → ((answer : Answer) → meant ≡ Ok answer → P answer.after) → P (answer_or_refusal view meant).after
after_answered P view (Ok answer) stays each = each answer refl
after_answered P view (Err why) stays each = stays

pub after_said : (P : Files → Type 0) (view : Files) (text : Result (List ℕ) Refusal) → P view
    → P (answer_of_read view text).after
after_said P view (Ok text) stays = stays
after_said P view (Err why) stays = stays
