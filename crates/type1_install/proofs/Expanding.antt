-- What an installation stands for, by the payloads of its files.
use Rattle.std.proofs.Common.{◌≡◌, ℕ, List, [], ◌∷◌, ◌++◌, Result, Ok, Err, map, refl, sym, ap, ◌∙◌, subst}
use Rattle.boot_base.specs.Paths.{Path}
use Rattle.boot_base.specs.declared.refusal.Refusal.{Refusal}
use Rattle.boot_machine.specs.Prelude.{Files}
use Rattle.boot_texts.specs.EntryText.{entry_text}
use Rattle.boot_texts.specs.declared.entry.Type1.{Type1}
use Rattle.tool_words.specs.declared.action.Action.{Action}
use Rattle.tool_words.specs.declared.action.Action.TheVariants as action
use Rattle.tool_words.specs.declared.command.Type1Words.{Type1Words}
use Rattle.command_plans.specs.Prelude.{◌>>=◌, bytes_at, each, ReadErrorFor}
use Rattle.command_plans.specs.declared.read_error.ReadError.{ReadError}
use Rattle.command_plans.specs.declared.read_error.ReadError.TheVariants as read_errors
use Rattle.command_plans.proofs.WordErrors.{done_next}
use Rattle.type1_install.specs.Installing.{Type1Plan, enter_of, entry_fields, install_commands, install_expansion, install_plan, planned_install, put_of, value_of_file}
use Rattle.type1_install.specs.Payloads.{payload_folder}
use Rattle.type1_install.specs.Shown.{fields_with, payload_at, payload_of, put_in, value_of_payload}
use Rattle.type1_install.specs.declared.payload.Payload.{Payload}
use Rattle.type1_install.proofs.Payloads.{read_error_first}

-- ---- the payloads of files are made where their bytes are read

joined_one : {X A : Type 0} (r : Result X Refusal) (p : A) (q : Result (List X) Refusal) (ps : List A)
    → ((r >>= λ x. Ok p) >>= λ y. (q >>= λ xs. Ok ps) >>= λ ys. Ok (y ∷ ys)) ≡ ((r >>= λ x. q >>= λ xs. Ok (x ∷ xs)) >>= λ xs. Ok (p ∷ ps))
joined_one (Ok x) p (Ok xs) ps = refl
joined_one (Ok x) p (Err why) ps = refl
joined_one (Err why) p q ps = refl

each_payloads : (view : Files) (files : List Path) → each (payload_at view) files ≡ (each (bytes_at view) files >>= λ bytes. Ok (map (payload_of view) files))
unfolding each
each_payloads view [] = refl
each_payloads view (file ∷ files) =
    ap (λ (q : Result (List Payload) Refusal). payload_at view file >>= λ y. q >>= λ ys. Ok (y ∷ ys)) (each_payloads view files)
    ∙ joined_one (bytes_at view file) (payload_of view file) (each (bytes_at view) files) (map (payload_of view) files)

map_both : {A B C : Type 0} (f : B → C) (g : A → B) (h : A → C) → ((x : A) → f (g x) ≡ h x) → (xs : List A) → map f (map g xs) ≡ map h xs
map_both f g h same [] = refl
map_both f g h same (x ∷ xs) = (λ i. same x i ∷ map_both f g h same xs i)

-- what was read, and the payloads that were made of it
by_reads : {X A B : Type 0} (reads : Result X Refusal) (made found : List A) (b : B) → (reads >>= λ x. Ok made) ≡ Ok found
    → ((reads >>= λ x. Ok b) ≡ Ok b) × (made ≡ found)
by_reads (Ok x) made found b is = (refl, cc)
by_reads (Err why) made found b is = cc

-- what is refused because of what was read is refused for that too if something else is made of it
refused_too : {X A B : Type 0} (fault : ReadError) (reads : Result X Refusal) (made : A) (b : B) → ReadErrorFor fault (reads >>= λ x. Ok made) → ReadErrorFor fault (reads >>= λ x. Ok b)
refused_too read_errors.Memory reads made b why = tt
refused_too read_errors.Disk reads made b why = tt
refused_too (read_errors.Refused refusal) (Ok x) made b why = cc
refused_too (read_errors.Refused refusal) (Err other) made b why = cc

-- ---- the whole

module _ (view : Files) (words : Type1Words) (plan : Type1Plan) (ok : install_plan words ≡ Ok plan) where
  abbrev files : List Path
  files = plan.linux ∷ plan.initrds

  -- of files of which one is refused
  pub expansion_refused : (fault : ReadError) → ReadErrorFor fault (each (payload_at view) (plan.linux ∷ plan.initrds)) → ReadErrorFor fault (install_expansion view words)
  unfolding install_expansion
  expansion_refused fault why =
      subst (ReadErrorFor fault) (sym (done_next (install_plan words) plan (planned_install view) ok))
      (refused_too fault (each (bytes_at view) files) (map (payload_of view) files) (install_commands view plan) (subst (ReadErrorFor fault) (each_payloads view files) why))

  commands_are : (linux : Payload) (initrds : List Payload) → map (payload_of view) files ≡ linux ∷ initrds
      → install_commands view plan ≡ put_in (payload_folder plan.esp) linux ∷
      (map (put_in (payload_folder plan.esp)) initrds ++ action.Enter plan.entry (entry_text (fields_with plan.texts linux initrds)) ∷ [])
  commands_are linux initrds is =
      let folder = payload_folder plan.esp in
      let first : payload_of view plan.linux ≡ linux = cc in
      let others : map (payload_of view) plan.initrds ≡ initrds = cc in
      let whole : Payload → List Payload → List Action =
      λ l is. put_in folder l ∷ (map (put_in folder) is ++ action.Enter plan.entry (entry_text (fields_with plan.texts l is)) ∷ []) in
      let puts = map_both (put_in folder) (payload_of view) (put_of view plan.esp) (λ file. refl) plan.initrds in
      let values = map_both value_of_payload (payload_of view) (value_of_file view) (λ file. refl) plan.initrds in
      let with_values : List (List ℕ) → Type1 = entry_fields plan.texts (value_of_file view plan.linux) in
      ap (λ (l : List Action). put_of view plan.esp plan.linux ∷ (l ++ enter_of view plan ∷ [])) (sym puts)
      ∙ ap (λ (vs : List (List ℕ)). put_of view plan.esp plan.linux ∷
      (map (put_in folder) (map (payload_of view) plan.initrds) ++ action.Enter plan.entry (entry_text (with_values vs)) ∷ [])) (sym values)
      ∙ ap (λ (l : Payload). whole l (map (payload_of view) plan.initrds)) first
      ∙ ap (whole linux) others

  -- of files that are all there
  pub expansion_made : (linux : Payload) (initrds : List Payload) → each (payload_at view) (plan.linux ∷ plan.initrds) ≡ Ok (linux ∷ initrds)
      → install_expansion view words ≡ Ok (put_in (payload_folder plan.esp) linux ∷
      (map (put_in (payload_folder plan.esp)) initrds ++ action.Enter plan.entry (entry_text (fields_with plan.texts linux initrds)) ∷ []))
  unfolding install_expansion
  expansion_made linux initrds made =
      let found = by_reads (each (bytes_at view) files) (map (payload_of view) files) (linux ∷ initrds) (install_commands view plan) (sym (each_payloads view files) ∙ made) in
      done_next (install_plan words) plan (planned_install view) ok ∙ found.0 ∙ ap (λ (l : List Action). Ok l) (commands_are linux initrds found.1)

-- ---- the kernel and then the initrds

module _ (view : Files) (file : Path) (files : List Path) where
  pub first_read_error : (fault : ReadError) → ReadErrorFor fault (payload_at view file) → ReadErrorFor fault (each (payload_at view) (file ∷ files))
  unfolding each
  first_read_error fault why = read_error_first fault (payload_at view file) _ why

  module _ (first : Payload) (is : payload_at view file ≡ Ok first) where
    pub later_read_error : (fault : ReadError) → ReadErrorFor fault (each (payload_at view) files) → ReadErrorFor fault (each (payload_at view) (file ∷ files))
    unfolding each
    later_read_error fault why =
        subst (ReadErrorFor fault) (sym (done_next (payload_at view file) first _ is)) (read_error_first fault (each (payload_at view) files) _ why)

    pub both_made : (others : List Payload) → each (payload_at view) files ≡ Ok others → each (payload_at view) (file ∷ files) ≡ Ok (first ∷ others)
    unfolding each
    both_made others made = done_next (payload_at view file) first _ is ∙ done_next (each (payload_at view) files) others _ made
