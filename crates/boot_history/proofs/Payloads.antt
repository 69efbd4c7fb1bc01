-- An installation keeps the payloads of entries.
use Rattle.std.proofs.Common.{◌≡◌, ℕ, zero, suc, Bool, List, [], ◌∷◌, ◌++◌, map, take, refl, sym, ◌∙◌, subst, append_assoc, append-nil, Result, Ok, Err, All}
use Rattle.std.proofs.lemmas.List.Elements.{All-head, All-tail, All-weaker}
use Rattle.std.specs.FinMap.{insert}
use Rattle.boot_base.specs.Paths.{Path}
use Rattle.boot_base.specs.declared.refusal.Refusal.{Refusal}
use Rattle.boot_machine.specs.Prelude.{Files, contents}
use Rattle.command_plans.specs.Prelude.{◌>>=◌, path_in, path_under, bytes_at, each, folders_of, menu_at, unlink_answer}
use Rattle.tool_words.specs.declared.command.Several.TheVariants as several
use Rattle.tool_words.specs.declared.action.Action.{Action}
use Rattle.tool_words.specs.declared.action.Action.TheVariants as action
use Rattle.tool_words.specs.declared.command.Type1Words.{Type1Words}
use Rattle.boot_commands.specs.Expansions.{actions_or_refusal, clean_or_idle, expansion}
use Rattle.boot_commands.specs.Replies.{action_reply}
use Rattle.boot_texts.specs.EntryText.{entry_text}
use Rattle.type1_install.specs.Installing.{Type1Plan, enter_of, payload_probe, fields_of, install_commands, install_expansion, install_plan, planned_install, put_of}
use Rattle.type1_install.specs.Cleaning.{cleanup_expansion}
use Rattle.type1_install.specs.Cleaning.{unnamed_payloads}
use Rattle.type1_install.specs.Placing.{put_answer}
use Rattle.type1_install.specs.Payloads.{payload_path}
use Rattle.type1_install.proofs.Installing.{IsSource}
use Rattle.boot_entries.specs.declared.folders.Folders.{Folders}
use Rattle.menu_order.specs.declared.item.MenuItem.{MenuItem}
use Rattle.type1_install.proofs.Planned.{IsPlanned, planned}
use Rattle.boot_run.specs.Lines.{line_deed}
use Rattle.boot_run.specs.Step.{view_after}
use Rattle.boot_run.specs.declared.line.Line.{Line}
use Rattle.boot_run.specs.declared.line.Line.TheVariants.{Part}
use Rattle.boot_history.specs.Payloads.{AreNamedThere, CleanupKeepsLaw, InstallKeepsLaw}
use Rattle.boot_history.proofs.NamedClean.{NoneNames, all_unnamed, still_none, unlinked}
use Rattle.boot_history.proofs.NamedPut.{PutSoFar, entered, none_put, put_more}

put_line : (view : Files) (file target : Path) → (line_deed view (Part (action.Put file target))).after ≡ (put_answer view file target).after
unfolding action_reply
put_line view file target = refl

enter_line : (view : Files) (path : Path) (text : List ℕ) → (line_deed view (Part (action.Enter path text))).after ≡ insert view path text
unfolding action_reply
enter_line view path text = refl

pub refused_line : (view : Files) (why : Refusal) → (line_deed view (Part (action.Refuse why))).after ≡ view
unfolding action_reply
refused_line view why = refl

pub told_line : (view : Files) (text : List ℕ) → (line_deed view (Part (action.Tell text))).after ≡ view
unfolding action_reply
told_line view text = refl

-- an action that leaves the view, alone
stays_alone : (counts : List ℕ → Bool) (esp : Path) (view : Files) (c : Action) → (line_deed view (Part c)).after ≡ view → AreNamedThere counts esp view
    → (n : ℕ) → AreNamedThere counts esp (view_after view (take n (Part c ∷ [])))
stays_alone counts esp view c same ok zero = ok
stays_alone counts esp view c same ok (suc zero) = subst (AreNamedThere counts esp) (sym same) ok
stays_alone counts esp view c same ok (suc (suc n)) = subst (AreNamedThere counts esp) (sym same) ok

pub refused_keeps : (counts : List ℕ → Bool) (esp : Path) (view : Files) (why : Refusal) → AreNamedThere counts esp view
    → (n : ℕ) → AreNamedThere counts esp (view_after view (take n (Part (action.Refuse why) ∷ [])))
refused_keeps counts esp view why = stays_alone counts esp view (action.Refuse why) (refused_line view why)

pub told_keeps : (counts : List ℕ → Bool) (esp : Path) (view : Files) (text : List ℕ) → AreNamedThere counts esp view
    → (n : ℕ) → AreNamedThere counts esp (view_after view (take n (Part (action.Tell text) ∷ [])))
told_keeps counts esp view text = stays_alone counts esp view (action.Tell text) (told_line view text)

module _ (counts : List ℕ → Bool) (esp : Path) (first : Files) (plan : Type1Plan) (is : IsPlanned first plan) where
  abbrev lines_left : List Path → List Line
  lines_left files = map Part (map (put_of first plan.esp) files ++ enter_of first plan ∷ [])

  all_put : (before files : List Path) (view : Files) → before ++ files ≡ plan.linux ∷ plan.initrds → PutSoFar counts esp plan.esp first before view → All (IsSource plan.esp first) files
      → (n : ℕ) → AreNamedThere counts esp (view_after view (take n (lines_left files)))
  all_put before files view whole so_far sources zero = so_far.ok
  all_put before [] view whole so_far sources (suc n) =
      let done = subst (λ (l : List Path). PutSoFar counts esp plan.esp first l view) (sym (append-nil before) ∙ whole) so_far in
      let now = entered counts esp plan.esp first view plan is.name refl done is.normal is.kept is.one is.of_type is.entry is.back.same in
      last n (subst (AreNamedThere counts esp) (sym (enter_line view plan.entry (entry_text (fields_of first plan)))) now)
    where
      last : (n : ℕ) → AreNamedThere counts esp (line_deed view (Part (enter_of first plan))).after
          → AreNamedThere counts esp (view_after (line_deed view (Part (enter_of first plan))).after (take n []))
      last zero now = now
      last (suc n) now = now
  all_put before (file ∷ files) view whole so_far sources (suc n) =
      let one = All-head (IsSource plan.esp first) file files sources in
      let more = put_more counts esp plan.esp first before view file so_far one in
      all_put (before ++ file ∷ []) files (line_deed view (Part (put_of first plan.esp file))).after (append_assoc before (file ∷ []) files ∙ whole)
      (subst (PutSoFar counts esp plan.esp first (before ++ file ∷ [])) (sym (put_line view file (payload_path plan.esp (contents first file)))) more)
      (All-tail (IsSource plan.esp first) file files sources) n

module _ (counts : List ℕ → Bool) (esp : Path) (view : Files) (words : Type1Words) (ok : AreNamedThere counts esp view) where
  Kept : List Action → Type 0
  Kept actions = (n : ℕ) → AreNamedThere counts esp (view_after view (take n (map Part actions)))

  refused : (why : Refusal) → Kept (action.Refuse why ∷ [])
  unfolding Kept
  refused why = refused_keeps counts esp view why ok

  readable : (plan : Type1Plan) → install_plan words ≡ Ok plan → (reads : Result (List (List ℕ)) Refusal) → each (bytes_at view) (plan.linux ∷ plan.initrds) ≡ reads
      → Kept (actions_or_refusal (λ actions. actions) (reads >>= λ _. Ok (install_commands view plan)))
  unfolding Kept
  readable plan planned_is (Err why) is = refused why
  readable plan planned_is (Ok reads) is =
      let facts = planned view words plan planned_is reads is in
      all_put counts esp view plan facts [] (plan.linux ∷ plan.initrds) view refl (none_put counts esp plan.esp view ok) facts.sources

  by_plan : (meant : Result Type1Plan Refusal) → install_plan words ≡ meant → Kept (actions_or_refusal (λ actions. actions) (meant >>= planned_install view))
  by_plan (Err why) is = refused why
  by_plan (Ok plan) is = readable plan is (each (bytes_at view) (plan.linux ∷ plan.initrds)) refl

  pub kept : (n : ℕ) → AreNamedThere counts esp (view_after view (take n (map Part (expansion view (several.Type1Install words)))))
  unfolding Kept expansion install_expansion
  kept = by_plan (install_plan words) refl

pub install_keeps : InstallKeepsLaw
install_keeps counts esp view input words ok = kept counts esp view words ok

-- ---- a cleanup

remove_line : (view : Files) (path : Path) → (line_deed view (Part (action.Remove path))).after ≡ (unlink_answer view path).after
unfolding action_reply
remove_line view path = refl

all_gone : (counts : List ℕ → Bool) (esp : Path) (view : Files) (paths : List Path) → AreNamedThere counts esp view → All (NoneNames esp view) paths
    → (n : ℕ) → AreNamedThere counts esp (view_after view (take n (map Part (map action.Remove paths))))
all_gone counts esp view paths ok none zero = ok
all_gone counts esp view [] ok none (suc n) = ok
all_gone counts esp view (path ∷ paths) ok none (suc n) =
    let here = All-head (NoneNames esp view) path paths none in
    let later = All-weaker (NoneNames esp view) (NoneNames esp (unlink_answer view path).after) (still_none esp view path) paths (All-tail (NoneNames esp view) path paths none) in
    all_gone counts esp (line_deed view (Part (action.Remove path))).after paths
    (subst (AreNamedThere counts esp) (sym (remove_line view path)) (unlinked counts esp view path ok here))
    (subst (λ v. All (NoneNames esp v) paths) (sym (remove_line view path)) later) n

module _ (counts : List ℕ → Bool) (esp : Path) (view : Files) (word : List ℕ) (ok : AreNamedThere counts esp view) where
  Cleaned : List Action → Type 0
  Cleaned actions = (n : ℕ) → AreNamedThere counts esp (view_after view (take n (map Part actions)))

  unclean : (why : Refusal) → Cleaned (action.Refuse why ∷ [])
  unfolding Cleaned
  unclean why = refused_keeps counts esp view why ok

  gone : (paths : List Path) → All (NoneNames esp view) paths → Cleaned (clean_or_idle (map action.Remove paths))
  unfolding Cleaned
  gone [] none = told_keeps counts esp view _ ok
  gone (path ∷ paths) none = all_gone counts esp view (path ∷ paths) ok none

  by_menu : (folders : Folders) (e : Path) → folders_of word ≡ Ok folders → path_in word ≡ Ok e → (menu : Result (List MenuItem) Refusal) → menu_at view folders ≡ menu
      → Cleaned (actions_or_refusal clean_or_idle (menu >>= λ menu. Ok (map action.Remove (unnamed_payloads view e menu))))
  by_menu folders e read at (Err why) is = unclean why
  by_menu folders e read at (Ok menu) is = gone (unnamed_payloads view e menu) (all_unnamed esp e view word folders menu at read is)

  by_probe : (folders : Folders) (e : Path) → folders_of word ≡ Ok folders → path_in word ≡ Ok e → (probe : Result Path Refusal)
      → Cleaned (actions_or_refusal clean_or_idle (probe >>= λ _. menu_at view folders >>= λ menu. Ok (map action.Remove (unnamed_payloads view e menu))))
  by_probe folders e read at (Err why) = unclean why
  by_probe folders e read at (Ok probe) = by_menu folders e read at (menu_at view folders) refl

  by_esp : (folders : Folders) → folders_of word ≡ Ok folders → (e : Result Path Refusal) → path_in word ≡ e
      → Cleaned (actions_or_refusal clean_or_idle (e >>= λ e. path_under e payload_probe >>= λ _. menu_at view folders >>= λ menu. Ok (map action.Remove (unnamed_payloads view e menu))))
  by_esp folders read (Err why) at = unclean why
  by_esp folders read (Ok e) at = by_probe folders e read at (path_under e payload_probe)

  by_folders : (folders : Result Folders Refusal) → folders_of word ≡ folders
      → Cleaned (actions_or_refusal clean_or_idle (folders >>= λ folders. path_in word >>= λ e. path_under e payload_probe >>= λ _. menu_at view folders >>= λ menu. Ok (map action.Remove (unnamed_payloads view e menu))))
  by_folders (Err why) read = unclean why
  by_folders (Ok folders) read = by_esp folders read (path_in word) refl

  pub cleaned : (n : ℕ) → AreNamedThere counts esp (view_after view (take n (map Part (expansion view (several.Type1Cleanup word)))))
  unfolding Cleaned expansion cleanup_expansion
  cleaned = by_folders (folders_of word) refl

pub cleanup_keeps : CleanupKeepsLaw
cleanup_keeps counts esp view input word ok = cleaned counts esp view word ok
