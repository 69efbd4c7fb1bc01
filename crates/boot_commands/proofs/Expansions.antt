-- The actions of a command of several, by what its reads say.
use Rattle.std.proofs.Common.{◌≡◌, ◌≢◌, ◌||◌, codes, ℕ, Bool, true, false, List, [], ◌∷◌, ◌++◌, map, length, refl, sym, ap, ◌∙◌, subst, arith, Result, Ok, Err, nat_eq, eqb-true}
use Rattle.boot_base.specs.Paths.{Path}
use Rattle.boot_base.specs.declared.refusal.Refusal.{Refusal}
use Rattle.boot_machine.specs.Prelude.{Files, State, seen}
use Rattle.command_plans.specs.Prelude.{◌>>=◌, bytes_at, each, ReadErrorFor}
use Rattle.command_plans.specs.declared.read_error.ReadError.{ReadError}
use Rattle.command_plans.specs.declared.read_error.ReadError.TheVariants as read_errors
use Rattle.tool_words.specs.declared.command.Several.{Several}
use Rattle.tool_words.specs.declared.command.Several.TheVariants as several
use Rattle.tool_words.specs.declared.command.KeepWords.{KeepWords}
use Rattle.tool_words.specs.declared.command.Type1Words.{Type1Words}
use Rattle.tool_words.specs.declared.action.Action.{Action}
use Rattle.tool_words.specs.declared.action.Action.TheVariants as action
use Rattle.entry_commands.specs.Keeping.{keep_result, would_text}
use Rattle.type1_install.specs.Cleaning.{cleanup_expansion}
use Rattle.type1_install.specs.Installing.{Type1Plan, install_commands, install_expansion, install_plan, planned_install}
use Rattle.boot_commands.specs.Demonstration.{demo_result}
use Rattle.boot_commands.specs.Expanding.{RefusedOrDone, RefusesReadError, StandsFor}
use Rattle.boot_commands.specs.Replies.{told_text}
use Rattle.boot_commands.specs.Expansions.{clean_or_idle, expansion, keep_actions, actions_or_refusal}
use Rattle.boot_commands.proofs.Unrefused.{bound_or_refused, expansion_unrefused, made_or_refused}

-- ---- there is at least one

NotEmpty : List Action → Type 0
NotEmpty actions = actions ≢ []

refusal_some : (why : Refusal) → NotEmpty (action.Refuse why ∷ [])
unfolding NotEmpty
refusal_some why same = cc

clean_some : (actions : List Action) → NotEmpty (clean_or_idle actions)
unfolding NotEmpty
clean_some [] same = cc
clean_some (first ∷ more) same = cc

keep_some : (dry_run : Bool) (paths : List Path) → NotEmpty (keep_actions dry_run paths)
unfolding NotEmpty
keep_some true paths same = cc
keep_some false [] same = cc
keep_some false (path ∷ paths) same = cc

install_some : (view : Files) (words_plan : Result Type1Plan Refusal)
    → NotEmpty (actions_or_refusal (λ actions. actions) (words_plan >>= planned_install view))
unfolding NotEmpty
install_some view words_plan =
    bound_or_refused NotEmpty refusal_some (λ actions. actions) words_plan (planned_install view) (λ plan.
    bound_or_refused NotEmpty refusal_some (λ actions. actions) (each (bytes_at view) (plan.linux ∷ plan.initrds)) (λ _. Ok (install_commands view plan)) (λ _ same. cc))

pub expansion_some : (view : Files) (c : Several) → expansion view c ≢ []
unfolding NotEmpty expansion install_expansion
expansion_some view (several.Type1Install words) = install_some view (install_plan words)
expansion_some view (several.Type1Cleanup esp) = made_or_refused NotEmpty refusal_some clean_or_idle (cleanup_expansion view esp) clean_some
expansion_some view (several.Keep words) = made_or_refused NotEmpty refusal_some (keep_actions words.dry_run) (keep_result view words) (keep_some words.dry_run)
expansion_some view (several.Demo seed count) = made_or_refused NotEmpty refusal_some (λ text. action.Tell text ∷ []) (demo_result seed count) (λ text same. cc)

stands_for : (s : State) (c : Several) (actions : List Action) → actions ≡ expansion (seen s) c → StandsFor s c actions
stands_for s c actions are = record {
  are = are;
  some = λ none. expansion_some (seen s) c (sym are ∙ none);
  unrefused = subst (RefusedOrDone (seen s)) (sym are) (expansion_unrefused (seen s) c);
}

pub install_stands : (s : State) (words : Type1Words) (actions : List Action)
    → actions ≡ actions_or_refusal (λ actions. actions) (install_expansion (seen s) words) → StandsFor s (several.Type1Install words) actions
unfolding expansion
install_stands s words actions are = stands_for s (several.Type1Install words) actions are

pub clean_stands : (s : State) (esp : List ℕ) (actions : List Action)
    → actions ≡ actions_or_refusal clean_or_idle (cleanup_expansion (seen s) esp) → StandsFor s (several.Type1Cleanup esp) actions
unfolding expansion
clean_stands s esp actions are = stands_for s (several.Type1Cleanup esp) actions are

pub keep_stands : (s : State) (words : KeepWords) (actions : List Action)
    → actions ≡ actions_or_refusal (keep_actions words.dry_run) (keep_result (seen s) words) → StandsFor s (several.Keep words) actions
unfolding expansion
keep_stands s words actions are = stands_for s (several.Keep words) actions are

pub demo_stands : (s : State) (seed count : List ℕ) (actions : List Action)
    → actions ≡ actions_or_refusal (λ text. action.Tell text ∷ []) (demo_result seed count) → StandsFor s (several.Demo seed count) actions
unfolding expansion
demo_stands s seed count actions are = stands_for s (several.Demo seed count) actions are

-- ---- what was found, or the refusal

pub refused_so : {A : Type 0} (made : A → List Action) (why : ReadError) (actions : List Action) (meant : Result A Refusal)
    → RefusesReadError why actions → ReadErrorFor why meant → actions ≡ actions_or_refusal made meant
refused_so made read_errors.Memory actions meant refuses is = absurd refuses
refused_so made read_errors.Disk actions meant refuses is = absurd refuses
refused_so made (read_errors.Refused why) actions meant refuses is = refuses ∙ sym (ap (actions_or_refusal made) is)

pub made_so : {A : Type 0} (made : A → List Action) (found : A) (actions : List Action) (meant : Result A Refusal)
    → actions ≡ made found → meant ≡ Ok found → actions ≡ actions_or_refusal made meant
made_so made found actions meant are is = are ∙ sym (ap (actions_or_refusal made) is)

-- a cleanup has nothing to do, or does this
pub clean_idle : (actions : List Action) → length actions ≡ 0 → clean_or_idle actions ≡ clean_or_idle []
clean_idle [] none = refl
clean_idle (first ∷ more) none = absurd (omega (arith, none))

pub clean_done : (actions : List Action) → (length actions ≡ 0 → ⊥) → actions ≡ clean_or_idle actions
clean_done [] some = absurd (some refl)
clean_done (first ∷ more) some = refl

-- a `keep` only tells, or removes these files
pub keep_told : (dry_run : Bool) (paths : List Path) → (dry_run || nat_eq (length paths) 0) ≡ true
    → action.Tell (would_text paths) ∷ [] ≡ keep_actions dry_run paths
keep_told true paths is = refl
keep_told false [] is = refl
keep_told false (path ∷ paths) is = absurd (omega (arith, eqb-true (length (path ∷ paths)) 0 is))

pub keep_removes : (dry_run : Bool) (paths : List Path) → (dry_run || nat_eq (length paths) 0) ≡ false
    → map action.Remove paths ≡ keep_actions dry_run paths
keep_removes true paths is = cc
keep_removes false [] is = cc
keep_removes false (path ∷ paths) is = refl

-- a text as it is told
pub told_empty : (text : List ℕ) → length text ≡ 0 → told_text text ≡ codes "\n"
told_empty [] none = refl
told_empty (byte ∷ bytes) none = absurd (omega (arith, none))

pub told_some : (text : List ℕ) → (length text ≡ 0 → ⊥) → told_text text ≡ text
told_some [] some = absurd (some refl)
told_some (byte ∷ bytes) some = refl
