-- A plan leaves the temporary files of others as they are.
use Rattle.std.proofs.Common.{◌≡◌, ◌∙◌, inl, inr, ℕ, Bool, true, false, List, [], ◌∷◌, ◌++◌, sym, refl, ap, is_some, ◌≢◌, bytes_eq}
use Rattle.std.proofs.lemmas.Bool.{cases_Bool}
use Rattle.std.specs.FinMap as map
use Rattle.boot_base.specs.Paths.{Path, intent, temp_end}
use Rattle.boot_machine.specs.Prelude.{Files, has, is_listed}
use Rattle.boot_machine.specs.proofs.Maps.{get-insert_here}
use Rattle.boot_machine.proofs.Listing.{bytes-true}
use Rattle.install_steps.specs.Steps.{KeepsTempsBut}
use Rattle.command_plans.specs.Prelude.{IsMakeable, SaysCleaned, cleaned_text, SparesTemps, answer_of_plan, effect, own_temps}
use Rattle.command_plans.specs.declared.plan.Change.{Change}
use Rattle.command_plans.specs.declared.plan.Change.TheVariants.{Nothing, Remove, Leftovers, Write, Put, Copy, Move}
use Rattle.command_plans.specs.declared.plan.Plan.{Plan}

-- one that isn't it
not_listed : (temp q : Path) → (temp ≡ q → ⊥) → is_listed (temp ∷ []) q ≡ false
not_listed temp q apart = elim (cases_Bool (bytes_eq temp q)) [ inl is ↦ absurd (apart (bytes-true temp q is)) | inr off ↦ rw off refl ]

has-inserted : (m : Files) (p : Path) (bytes : List ℕ) → has (map.insert m p bytes) p ≡ true
has-inserted m p bytes = ap is_some (get-insert_here m p bytes)

-- the temporary file of a change stands beside what stands after it, or beside the intent
off_own : (view : Files) (change : Change) (text : List ℕ) (q : Path) → IsMakeable change → SaysCleaned change text → bytes_eq text cleaned_text ≡ false
    → ((p : Path) → q ≡ p ++ temp_end → (has (effect view change) p ≡ false) × (p ≢ intent)) → is_listed (own_temps change) q ≡ false
off_own view Nothing text q makeable says quiet apart = refl
off_own view (Remove path gone) text q makeable says quiet apart = refl
off_own view (Leftovers temps) text q makeable says quiet apart = absurd (cc (says refl, quiet))
off_own view (Write image sources target) text q makeable says quiet apart = not_listed target.temp q (λ is. cc ((apart target.path (sym is ∙ target.beside)).0, has-inserted view target.path _))
off_own view (Put target bytes) text q makeable says quiet apart = not_listed target.temp q (λ is. cc ((apart target.path (sym is ∙ target.beside)).0, has-inserted view target.path bytes))
off_own view (Copy from target gone) text q makeable says quiet apart = not_listed target.temp q (λ is. cc ((apart target.path (sym is ∙ target.beside)).0, has-inserted view target.path _))
off_own view (Move from to moved gone exists) text q makeable says quiet apart = not_listed moved.temp q (λ is. (apart intent (sym is ∙ makeable.0.2)).1 refl)

pub spares : (view old new : Files) (plan : Plan) → KeepsTempsBut (own_temps plan.change) old new → SparesTemps (answer_of_plan view plan) old new
spares view old new plan kept q temp spared = kept q temp (off_own view plan.change plan.text q plan.makeable plan.says spared.0 spared.1)
