-- The words of an installation, step by step.
use Rattle.std.proofs.Common.{◌≡◌, ℕ, List, ◌∷◌, Result, Ok, Err, ap, ◌∙◌}
use Rattle.boot_base.specs.Paths.{Path}
use Rattle.boot_base.specs.declared.refusal.Refusal.{Refusal}
use Rattle.command_plans.specs.Prelude.{◌>>=◌, WordErrorFor, Means, each}
use Rattle.command_plans.specs.declared.word_error.WordError.{WordError}
use Rattle.command_plans.specs.declared.word_error.WordError.TheVariants.{Memory, Refused}
use Rattle.command_plans.proofs.WordErrors.{word_error_first, done_next}
use Rattle.tool_words.specs.declared.command.Type1Words.{Type1Words}
use Rattle.type1_install.specs.Installing.{entry_file, files_in, install_plan, place_in, install_source}
use Rattle.type1_install.specs.Shown.{files_shown, place_shown, plan_shown}
use Rattle.type1_install.specs.declared.install_words.EntryRoom.{EntryRoom}
use Rattle.type1_install.specs.declared.install_words.PayloadFiles.{PayloadFiles}

module _ (f : Path → Result Path Refusal) (x : Path) (xs : List Path) where
  -- the first is declined
  pub first_word_error : (word_error : WordError) → WordErrorFor word_error (f x) → WordErrorFor word_error (each f (x ∷ xs))
  unfolding each
  first_word_error word_error why = word_error_first word_error (f x) (λ y. each f xs >>= λ ys. Ok (y ∷ ys)) why

  whole : f x ≡ Ok x → each f (x ∷ xs) ≡ (each f xs >>= λ ys. Ok (x ∷ ys))
  unfolding each
  whole first = ap (λ (q : Result Path Refusal). q >>= λ y. each f xs >>= λ ys. Ok (y ∷ ys)) first

  next_of : Result (List Path) Refusal → Result (List Path) Refusal
  next_of q = q >>= λ ys. Ok (x ∷ ys)

  -- the first is taken, and the others are as they are
  pub also_first : (result : Result (Unit {0}) WordError) → f x ≡ Ok x → Means (λ _. xs) result (each f xs) → Means (λ _. x ∷ xs) result (each f (x ∷ xs))
  unfolding next_of
  also_first (Ok done) first more = whole first ∙ ap next_of more
  also_first (Err Memory) first more = tt
  also_first (Err (Refused why)) first more = whole first ∙ ap next_of more

-- ---- the whole plan

pub plan_is : (words : Type1Words) (name : List ℕ) (files : PayloadFiles) (place : EntryRoom) → entry_file words ≡ Ok name
    → files_in words ≡ Ok (files_shown files) → place_in words.esp name ≡ Ok (place_shown place)
    → each (install_source place.esp) (files.linux ∷ files.initrds.items) ≡ Ok (files.linux ∷ files.initrds.items)
    → install_plan words ≡ Ok (plan_shown words.texts (record { files = files; place = place }))
plan_is words name files place named filed placed sourced =
    done_next (entry_file words) name _ named
    ∙ done_next (files_in words) (files_shown files) _ filed
    ∙ done_next (place_in words.esp name) (place_shown place) _ placed
    ∙ done_next (each (install_source place.esp) (files.linux ∷ files.initrds.items)) (files.linux ∷ files.initrds.items) _ sourced
