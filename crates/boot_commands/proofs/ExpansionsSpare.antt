-- What an installation and a cleanup stand for spares every good entry: a payload's name has no suffix, and what is
-- entered is an entry.
use Rattle.std.proofs.Common.{◌≡◌, ◌≢◌, inl, inr, ℕ, true, List, [], ◌∷◌, ◌++◌, map, Some, None, refl, sym, ap, ◌∙◌, subst, Result, Ok, Err, All, bytes_eq, nat_le, not, ◌&&◌, length}
use Rattle.std.specs.List.{list_any}
use Rattle.std.specs.FinMap as map_of
use Rattle.std.proofs.lemmas.Bool.{and_from, and_parts, cases_Bool, cond-true, le-leb}
use Rattle.std.proofs.lemmas.List.Elements.{All-cons, All-head, All-nil, All-tail}
use Rattle.std.proofs.lemmas.Slice.Eq.{bytes_eq-Decides}
use Rattle.boot_base.specs.Paths.{Path, file_name_of, under}
use Rattle.boot_base.specs.declared.refusal.Refusal.{Refusal}
use Rattle.menu_order.specs.Splits.{has_suffix}
use Rattle.menu_order.specs.declared.counted.Suffix.{Suffix}
use Rattle.menu_order.specs.declared.counted.Suffix.TheVariants.{Conf, Efi}
use Rattle.menu_order.specs.declared.item.MenuItem.{MenuItem}
use Rattle.boot_texts.specs.BootEntries.{boots, type1_of}
use Rattle.boot_entries.specs.Entries.{entry_of, folder_of}
use Rattle.boot_entries.specs.Records.{type1_item}
use Rattle.boot_entries.specs.declared.folders.Folders.{Folders}
use Rattle.boot_entries.proofs.EntryFiles.{one_type}
use Rattle.boot_entries.proofs.Places.{file_name_under, name_parts}
use Rattle.boot_machine.specs.Prelude.{Files, contents}
use Rattle.command_plans.specs.Prelude.{◌>>=◌, path_in, path_under, bytes_at, each, folders_of, menu_at}
use Rattle.tool_words.specs.declared.command.Several.{Several}
use Rattle.tool_words.specs.declared.command.Several.TheVariants as several
use Rattle.tool_words.specs.declared.action.Action.{Action}
use Rattle.tool_words.specs.declared.action.Action.TheVariants as action
use Rattle.tool_words.specs.declared.command.Type1Words.{Type1Words}
use Rattle.entry_commands.specs.GoodEntries.{HasGoodEntry}
use Rattle.entry_commands.proofs.GoodEntries.{put_apart}
use Rattle.entry_commands.proofs.GoodEntries.{replaced}
use Rattle.command_plans.proofs.Steps.{clash}
use Rattle.boot_texts.specs.EntryText.{entry_text, is_payload_name}
use Rattle.type1_install.specs.Installing.{Type1Plan, enter_of, fields_of, install_commands, install_expansion, install_plan, payload_probe, planned_install, put_of}
use Rattle.type1_install.specs.Cleaning.{cleanup_expansion, is_unnamed}
use Rattle.type1_install.specs.Cleaning.{unnamed_payloads}
use Rattle.type1_install.specs.Payloads.{folders_at, is_payload_path, item_names, payload_folder, payload_name, payload_path}
use Rattle.type1_install.proofs.Cleaning.{all_kept}
use Rattle.type1_install.proofs.Installing.{entry_is}
use Rattle.type1_install.proofs.PayloadNames.{payload_name_fits}
use Rattle.type1_install.proofs.PayloadsKept.{payload_slash, payload_unlike}
use Rattle.type1_install.proofs.Planned.{IsPlanned, planned}
use Rattle.boot_commands.specs.Expansions.{clean_or_idle, expansion, actions_or_refusal}
use Rattle.boot_commands.specs.Replies.{action_reply}
use Rattle.boot_commands.proofs.Unrefused.{bound_or_refused}
use Rattle.boot_commands.proofs.Sparing.{action_kept}

enter_after : (view : Files) (path : Path) (text : List ℕ) → (action_reply view (action.Enter path text)).after ≡ map_of.insert view path text
unfolding action_reply
enter_after view path text = refl

-- the name of the good entry's file, and its type
name_is : (folders : Folders) (path : Path) (view : Files) → (e : HasGoodEntry folders path view) → file_name_of path ≡ e.entry.name
name_is folders path view e =
    ap file_name_of (sym e.at ∙ e.entry.stands)
    ∙ file_name_under (folder_of folders e.entry.suffix) e.entry.name (name_parts e.entry.name e.entry.is_name).1

conf_type : (name : List ℕ) (suffix : Suffix) → has_suffix suffix name ≡ true → has_suffix Conf name ≡ true → suffix ≡ Conf
conf_type name Conf of_type conf = refl
conf_type name Efi of_type conf = absurd (clash conf (one_type name of_type))

module _ (word : List ℕ) (folders : Folders) (read : folders_of word ≡ Ok folders) (path : Path) where
  -- an action keeps the good entry at this path, whatever else there is
  abbrev pub Keeping : Action → Type 0
  Keeping c = (v : Files) → HasGoodEntry folders path v → HasGoodEntry folders path (action_reply v c).after

  -- a file that is named like a payload isn't that entry's
  digits_apart : (v : Files) → HasGoodEntry folders path v → (at : Path) → is_payload_name (file_name_of at) ≡ true → at ≢ path
  digits_apart v e at digits same =
      payload_unlike e.entry.suffix (file_name_of at) digits
      (ap (λ (p : Path). has_suffix e.entry.suffix (file_name_of p)) same
      ∙ ap (has_suffix e.entry.suffix) (name_is folders path v e) ∙ e.entry.of_type)

  put_keeps : (view : Files) (esp file : Path) → Keeping (put_of view esp file)
  put_keeps view esp file v e =
      let bytes = contents view file in
      let fits = payload_name_fits bytes in
      let last = file_name_under (payload_folder esp) (payload_name bytes) (payload_slash (payload_name bytes) fits) in
      action_kept word folders read path v e (put_of view esp file)
      (digits_apart v e (payload_path esp bytes) (ap is_payload_name last ∙ fits))

  enter_keeps : (view : Files) (plan : Type1Plan) → IsPlanned view plan → Keeping (enter_of view plan)
  enter_keeps view plan is v e =
      let text = entry_text (fields_of view plan) in
      let item = type1_item path (type1_of text) in
      let last : file_name_of plan.entry ≡ is.name =
      ap file_name_of (entry_is plan.esp is.name plan.entry is.normal is.kept is.one is.entry)
      ∙ file_name_under (folders_at plan.esp).entries is.name is.one in
      let valid : entry_of Conf path text ≡ Some item =
      cond-true (nat_le (length text) 65536 && boots text) (Some item) None
      (and_from (nat_le (length text) 65536) (boots text) (le-leb (length text) 65536 is.back.short) is.back.boots) in
      subst (HasGoodEntry folders path) (sym (enter_after v plan.entry text)) (elim (cases_Bool (bytes_eq path plan.entry)) [
        | inl one ↦
            let same : path ≡ plan.entry = (bytes_eq-Decides path plan.entry).0 one in
            let conf = conf_type e.entry.name e.entry.suffix e.entry.of_type
            (ap (has_suffix Conf) (sym (name_is folders path v e) ∙ ap file_name_of same ∙ last) ∙ is.of_type) in
            subst (λ (p : Path). HasGoodEntry folders path (map_of.insert v p text)) same
            (replaced folders path v e Conf text item conf valid)
        | inr two ↦
            put_apart folders path v e plan.entry text
            (λ same. clash ((bytes_eq-Decides path plan.entry).1 (sym same)) two)
      ])

  only_keeps : (c : Action) → Keeping c → All Keeping (c ∷ [])
  only_keeps c keeps = All-cons Keeping c [] keeps (All-nil Keeping)

  refusal_keeps : (why : Refusal) → All Keeping (action.Refuse why ∷ [])
  refusal_keeps why = only_keeps (action.Refuse why) (λ v e. action_kept word folders read path v e (action.Refuse why) tt)

  puts_keep : (view : Files) (plan : Type1Plan) → IsPlanned view plan → (files : List Path)
      → All Keeping (map (put_of view plan.esp) files ++ enter_of view plan ∷ [])
  puts_keep view plan is [] = All-cons Keeping (enter_of view plan) [] (enter_keeps view plan is) (All-nil Keeping)
  puts_keep view plan is (file ∷ files) =
      All-cons Keeping (put_of view plan.esp file) (map (put_of view plan.esp) files ++ enter_of view plan ∷ [])
      (put_keeps view plan.esp file) (puts_keep view plan is files)

  readable_keep : (view : Files) (words : Type1Words) (plan : Type1Plan) → install_plan words ≡ Ok plan
      → (reads : Result (List (List ℕ)) Refusal) → each (bytes_at view) (plan.linux ∷ plan.initrds) ≡ reads
      → All Keeping (actions_or_refusal (λ actions. actions) (reads >>= λ _. Ok (install_commands view plan)))
  readable_keep view words plan planned_is (Err why) is = refusal_keeps why
  readable_keep view words plan planned_is (Ok reads) is =
      puts_keep view plan (planned view words plan planned_is reads is) (plan.linux ∷ plan.initrds)

  planned_keep : (view : Files) (words : Type1Words) (meant : Result Type1Plan Refusal) → install_plan words ≡ meant
      → All Keeping (actions_or_refusal (λ actions. actions) (meant >>= planned_install view))
  planned_keep view words (Err why) is = refusal_keeps why
  planned_keep view words (Ok plan) is =
      readable_keep view words plan is (each (bytes_at view) (plan.linux ∷ plan.initrds)) refl

  -- each command of an installation
  pub install_keeps : (view : Files) (words : Type1Words) → All Keeping (expansion view (several.Type1Install words))
  unfolding expansion install_expansion
  install_keeps view words = planned_keep view words (install_plan words) refl

  removals_keep : (esp : Path) (menu : List MenuItem) (paths : List Path) → All (λ p. is_unnamed esp menu p ≡ true) paths
      → All Keeping (map action.Remove paths)
  removals_keep esp menu [] all = All-nil Keeping
  removals_keep esp menu (at ∷ paths) all =
      let parts = and_parts (is_payload_path esp at) (not (list_any (item_names esp at) menu))
      (All-head (λ p. is_unnamed esp menu p ≡ true) at paths all) in
      let digits = and_parts (is_payload_name (file_name_of at)) (bytes_eq (under (payload_folder esp) (file_name_of at)) at) parts.0 in
      All-cons Keeping (action.Remove at) (map action.Remove paths)
      (λ v e. action_kept word folders read path v e (action.Remove at) (digits_apart v e at digits.0))
      (removals_keep esp menu paths (All-tail (λ p. is_unnamed esp menu p ≡ true) at paths all))

  clean_keeps : (actions : List Action) → All Keeping actions → All Keeping (clean_or_idle actions)
  clean_keeps [] all = only_keeps (action.Tell _) (λ v e. action_kept word folders read path v e (action.Tell _) tt)
  clean_keeps (first ∷ more) all = all

  -- and of a cleanup
  pub cleanup_keeps : (view : Files) (esp : List ℕ) → All Keeping (expansion view (several.Type1Cleanup esp))
  unfolding expansion cleanup_expansion
  cleanup_keeps view esp =
      bound_or_refused (All Keeping) refusal_keeps clean_or_idle (folders_of esp) _ (λ folders.
      bound_or_refused (All Keeping) refusal_keeps clean_or_idle (path_in esp) _ (λ at.
      bound_or_refused (All Keeping) refusal_keeps clean_or_idle (path_under at payload_probe) _ (λ _.
      bound_or_refused (All Keeping) refusal_keeps clean_or_idle (menu_at view folders) _ (λ menu.
      clean_keeps (map action.Remove (unnamed_payloads view at menu))
      (removals_keep at menu (unnamed_payloads view at menu) (all_kept (is_unnamed at menu) (map_of.keys view)))))))
