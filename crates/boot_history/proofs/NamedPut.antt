-- An installation keeps the payloads that count, after each of its actions.
use Rattle.std.proofs.Common.{◌≡◌, ℕ, Bool, true, false, eqb, List, [], ◌∷◌, ◌++◌, Some, Ok, length, map, refl, sym, ap, ◌∙◌, subst, arith, All, Contains, codes, option_to_list}
use Rattle.std.specs.FinMap as map_of
use Rattle.std.specs.List.{list_any}
use Rattle.std.proofs.lemmas.Bool.{and_parts, eqb-true}
use Rattle.std.proofs.lemmas.List.{append_cancel_right}
use Rattle.std.proofs.lemmas.List.Elements.{All-cons, All-contains, All-head, All-nil, All-push, All-tail, All-weaker}
use Rattle.boot_base.specs.Layout.{entries_below}
use Rattle.boot_base.specs.Paths.{Path, file_name_of, is_kept, is_slash, under}
use Rattle.boot_machine.specs.Prelude.{Files, contents}
use Rattle.boot_machine.specs.proofs.Maps.{get-insert_apart, get-insert_here, same_apart}
use Rattle.boot_entries.proofs.Places.{file_name_under}
use Rattle.boot_texts.specs.BootEntries.{type1_of}
use Rattle.boot_texts.specs.declared.entry.Type1.{Type1}
use Rattle.menu_order.specs.Splits.{has_suffix}
use Rattle.menu_order.specs.declared.counted.Suffix.TheVariants.{Conf}
use Rattle.command_plans.specs.Prelude.{path_under, bytes_at, readable_bytes}
use Rattle.boot_base.proofs.Beside.{kept_from_long}
use Rattle.boot_texts.specs.EntryText.{entry_text, is_payload_name, payload_value}
use Rattle.type1_install.specs.Installing.{Type1Plan, fields_of, value_of_file}
use Rattle.type1_install.specs.Placing.{put_answer}
use Rattle.type1_install.specs.Payloads.{HasPayload, folders_at, path_of_value, payload_folder, payload_name, payload_path}
use Rattle.type1_install.proofs.PayloadNames.{payload_name_fits}
use Rattle.type1_install.proofs.Installing.{IsNormal, IsSource, entry_is, value_names}
use Rattle.type1_install.proofs.PayloadsKept.{conf_name, payload_stays, suffix_not_payload}
use Rattle.boot_history.specs.Payloads.{AreNamedThere}
use Rattle.boot_history.proofs.NamedKept.{payload_kept, put_kept}

-- ---- one file after the other

module _ (counts : List ℕ → Bool) (esp : Path) (e : Path) (v : Files) where
  -- these files were put
  pub record PutSoFar (done : List Path) (view : Files) : Type 0 where
    pub ok : AreNamedThere counts esp view
    pub placed : All (λ file. HasPayload e (payload_name (contents v file)) view) done
    pub stays : (file : Path) → IsSource e v file → map_of.get view file ≡ map_of.get v file

  pub none_put : AreNamedThere counts esp v → PutSoFar [] v
  none_put ok = record { ok = ok; placed = All-nil (λ file. HasPayload e (payload_name (contents v file)) v); stays = λ file is. refl }

  put_is : (view : Files) (file : Path) → IsSource e v file → map_of.get view file ≡ map_of.get v file
      → (put_answer view file (payload_path e (contents v file))).after ≡ map_of.insert view (payload_path e (contents v file)) (contents v file)
  put_is view file is same =
      let read : bytes_at view file ≡ Ok (contents v file) = ap (readable_bytes file) same ∙ is.read in
      rw read refl

  pub put_more : (done : List Path) (view : Files) (file : Path) → PutSoFar done view → IsSource e v file
      → PutSoFar (done ++ file ∷ []) (put_answer view file (payload_path e (contents v file))).after
  put_more done view file so_far is =
      let bytes = contents v file in
      let next = map_of.insert view (payload_path e bytes) bytes in
      let fits = payload_name_fits bytes in
      let placed = All-weaker (λ file. HasPayload e (payload_name (contents v file)) view) (λ file. HasPayload e (payload_name (contents v file)) next)
      (λ file there. payload_stays e e view bytes (payload_name (contents v file)) (payload_name_fits (contents v file)) there) done so_far.placed in
      subst (PutSoFar (done ++ file ∷ [])) (sym (put_is view file is (so_far.stays file is))) (record {
        ok = payload_kept counts esp view so_far.ok e bytes;
        placed = All-push (λ file. HasPayload e (payload_name (contents v file)) next) done file placed
            (record { bytes = bytes; there = get-insert_here view (payload_path e bytes) bytes; is = refl });
        stays = λ other other_is. get-insert_apart view (payload_path e bytes) bytes other (same_apart other (payload_path e bytes) (other_is.apart bytes)) ∙ so_far.stays other other_is;
      })

  -- a value names a payload that is there
  PlacedValue : Files → List ℕ → Type 0
  PlacedValue view value = (bytes : List ℕ) × (value ≡ payload_value (payload_name bytes)) × HasPayload e (payload_name bytes) view

  placed_values : (view : Files) (files : List Path) → All (λ file. HasPayload e (payload_name (contents v file)) view) files → All (PlacedValue view) (map (value_of_file v) files)
  unfolding PlacedValue
  placed_values view [] all = All-nil (PlacedValue view)
  placed_values view (file ∷ files) all =
      let there = All-head (λ file. HasPayload e (payload_name (contents v file)) view) file files all in
      All-cons (PlacedValue view) (value_of_file v file) (map (value_of_file v) files) (contents v file, refl, there)
      (placed_values view files (All-tail (λ file. HasPayload e (payload_name (contents v file)) view) file files all))

  kept_digits : (digits : List ℕ) → is_payload_name digits ≡ true → is_kept digits ≡ true
  kept_digits digits is = kept_from_long digits (omega (arith, long))
    where
      long : length digits ≡ 64
      long = eqb-true (length digits) 64 (and_parts (eqb (length digits) 64) _ is).0

  -- then the entry may be entered
  pub entered : (view : Files) (plan : Type1Plan) (name : List ℕ) → plan.esp ≡ e → PutSoFar (plan.linux ∷ plan.initrds) view
      → IsNormal e → is_kept name ≡ true → list_any is_slash name ≡ false → has_suffix Conf name ≡ true
      → path_under e (under entries_below name) ≡ Ok plan.entry
      → type1_of (entry_text (fields_of v plan)) ≡ fields_of v plan
      → AreNamedThere counts esp (map_of.insert view plan.entry (entry_text (fields_of v plan)))
  unfolding PlacedValue
  entered view plan name at so_far normal kept one of_type entry reads =
      let stands = entry_is e name plan.entry normal kept one entry in
      let last : file_name_of plan.entry ≡ name = ap file_name_of stands ∙ file_name_under (folders_at e).entries name one in
      put_kept counts esp view so_far.ok plan.entry (entry_text (fields_of v plan))
      (suffix_not_payload esp plan.entry Conf (ap (has_suffix Conf) last ∙ of_type))
      (λ conf value among digits is names.
      let names_same : conf.name ≡ name = sym (conf_name esp plan.entry conf) ∙ last in
      let whole : under (folders_at esp).entries name ≡ under (folders_at e).entries name = ap (under (folders_at esp).entries) (sym names_same) ∙ sym conf.at ∙ stands in
      let folders : (folders_at esp).entries ≡ (folders_at e).entries = append_cancel_right (folders_at esp).entries (folders_at e).entries (47 ∷ name) whole in
      let same : esp ≡ e = append_cancel_right esp e (47 ∷ entries_below) folders in
      let said : Contains (option_to_list (fields_of v plan).linux ++ (fields_of v plan).initrds) value =
      subst (λ (f : Type1). Contains (option_to_list f.linux ++ f.initrds) value) reads among in
      let found = All-contains (PlacedValue view) (map (value_of_file v) (plan.linux ∷ plan.initrds)) value (placed_values view (plan.linux ∷ plan.initrds) so_far.placed) said in
      let fits = payload_name_fits found.0 in
      let named : path_of_value e (payload_value (payload_name found.0)) ≡ Some (under (payload_folder e) digits) =
      subst (λ x. path_of_value x (payload_value (payload_name found.0)) ≡ Some (under (payload_folder x) digits)) same
      (subst (λ (w : List ℕ). path_of_value esp w ≡ Some (under (payload_folder esp) digits)) found.1 names) in
      let digits_are = value_names e (payload_name found.0) digits normal fits (kept_digits (payload_name found.0) fits) is named in
      subst (λ x. HasPayload x digits view) (sym same) (subst (λ d. HasPayload e d view) digits_are found.2))
