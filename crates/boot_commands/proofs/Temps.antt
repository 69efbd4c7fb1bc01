-- The temporary files of others, after a plan was made and carried out.
use Rattle.std.proofs.Common.{◌≡◌, ◌∙◌, inl, inr, ℕ, false, List, [], ◌∷◌, refl, ap, subst, All, bytes_eq}
use Rattle.std.proofs.lemmas.Bool.{cases_Bool}
use Rattle.std.proofs.lemmas.List.Elements.{All-head, All-tail}
use Rattle.std.specs.FinMap as map
use Rattle.boot_base.specs.Paths.{Path}
use Rattle.boot_machine.specs.Prelude.{Files, State, is_listed, seen}
use Rattle.boot_machine.proofs.Listing.{bytes-true}
use Rattle.install_steps.specs.Steps.{KeepsTempsBut}
use Rattle.command_plans.specs.Prelude.{Answer, folders_of, SparesTemps, answer_of_plan}
use Rattle.command_plans.specs.declared.plan.Plan.{Plan}
use Rattle.entry_commands.specs.Tidying.{StandsAt}
use Rattle.tool_words.specs.declared.command.One.{One}
use Rattle.boot_commands.specs.Commands.{MayOwn, TidiesThere}

-- nothing was changed
pub spares_same : (meant : Answer) (old new : State) → new ≡ old → SparesTemps meant old.files new.files
spares_same meant old new same q temp spared = ap (λ (s : State). map.get s.files q) same

-- the plan that was carried out is what the command comes to
pub spares_after : (plan : Plan) (meant : Answer) (old mid : State) (new : Files) → mid ≡ old → answer_of_plan (seen old) plan ≡ meant → SparesTemps (answer_of_plan (seen mid) plan) mid.files new
    → SparesTemps meant old.files new
spares_after plan meant old mid new same is spared =
    subst (λ (answer : Answer). SparesTemps answer old.files new) is (subst (λ (s : State). SparesTemps (answer_of_plan (seen s) plan) s.files new) same spared)

-- what stands elsewhere isn't among these
off_listed : (At : Path → Type 0) (temps : List Path) (q : Path) → All At temps → (At q → ⊥) → is_listed temps q ≡ false
off_listed At [] q all off = refl
off_listed At (temp ∷ temps) q all off = elim (cases_Bool (bytes_eq temp q)) [
  | inl here ↦ absurd (off (subst At (bytes-true temp q here) (All-head At temp temps all)))
  | inr apart ↦ rw apart (off_listed At temps q (All-tail At temp temps all) off)
]

pub there_same : (command : One) (old new : State) → new ≡ old → TidiesThere command old.files new.files
there_same command old new same esp is q temp off = ap (λ (s : State). map.get s.files q) same

pub there_after : (command : One) (own : List Path) (old mid : State) (new : Files) → mid ≡ old → MayOwn command own → KeepsTempsBut own mid.files new → TidiesThere command old.files new
there_after command own old mid new same owns kept esp is q temp off =
    kept q temp (off_listed (StandsAt (folders_of esp)) own q (subst (λ (c : One). MayOwn c own) is owns) off) ∙ ap (λ (s : State). map.get s.files q) same
