-- What changes of the boot files keep the payloads that count.
use Rattle.std.proofs.Common.{◌≡◌, ◌⊎◌, ◌&&◌, inl, inr, ℕ, Bool, true, List, [], ◌++◌, Option, Some, None, is_some, length, refl, sym, ap, ◌∙◌, subst, arith, Contains, nat_le, unwrap_or, option_to_list}
use Rattle.std.specs.FinMap as map
use Rattle.std.proofs.lemmas.Bool.{cond-true}
use Rattle.boot_base.specs.Paths.{Path, is_file_name, path_of, under}
use Rattle.menu_order.specs.Splits.{has_suffix}
use Rattle.menu_order.specs.declared.counted.Suffix.{Suffix}
use Rattle.menu_order.specs.declared.counted.Suffix.TheVariants.{Conf, Efi}
use Rattle.menu_order.specs.declared.item.MenuItem.{MenuItem}
use Rattle.boot_entries.specs.Entries.{entry_of, folder_of}
use Rattle.boot_entries.proofs.EntryFiles.{image_pairs}
use Rattle.boot_entries.specs.Records.{type1_entry, type1_item}
use Rattle.boot_machine.specs.Prelude.{Files, has, contents, move_in}
use Rattle.boot_machine.specs.proofs.Maps.{cases_same, get-insert_apart, get-insert_here, get-remove_apart, get-remove_here, same_apart}
use Rattle.boot_texts.specs.BootEntries.{boots, type1_of}
use Rattle.boot_texts.specs.EntryText.{is_payload_name}
use Rattle.type1_install.specs.Payloads.{HasPayload, folders_at, path_of_value, payload_folder, payload_path}
use Rattle.type1_install.proofs.PayloadsKept.{IsConfFile, NamedOk, NotPayload, payload_not_conf, payload_stays, some_if}
use Rattle.boot_history.specs.Payloads.{AreNamedThere}

no_value : (value : List ℕ) → Contains [] value → ⊥
no_value value among = absurd (omega (arith, among.1))

module _ (counts : List ℕ → Bool) (esp : Path) (view next : Files) (ok : AreNamedThere counts esp view)
    (stay : (name : List ℕ) → is_payload_name name ≡ true → HasPayload esp name view → HasPayload esp name next)
    (from : (path : Path) (bytes : List ℕ) → IsConfFile esp path → map.get next path ≡ Some bytes
    → ((other : Path) × IsConfFile esp other × (map.get view other ≡ Some bytes)) ⊎ NamedOk esp view bytes) where
  by_conf : (item : MenuItem) (path : Path) (bytes : List ℕ) → IsConfFile esp path → map.get next path ≡ Some bytes → type1_entry path bytes ≡ Some item
      → (value : List ℕ) → Contains (option_to_list item.linux ++ item.initrds) value → (name : List ℕ) → is_payload_name name ≡ true → counts name ≡ true
      → path_of_value esp value ≡ Some (under (payload_folder esp) name) → HasPayload esp name view
  by_conf item path bytes conf there valid value among name is counted names =
      let read = some_if (nat_le (length bytes) 65536 && boots bytes) (type1_item path (type1_of bytes)) item valid in
      let said : Contains (option_to_list (type1_of bytes).linux ++ (type1_of bytes).initrds) value =
      subst (λ (i : MenuItem). Contains (option_to_list i.linux ++ i.initrds) value) (sym read.1) among in
      elim (from path bytes conf there) [
        | inl moved ↦
            let other = moved.0 in
            ok (type1_item other (type1_of bytes)) (record {
              suffix = Conf;
              name = moved.1.name;
              bytes = bytes;
              is_name = moved.1.is_name;
              of_type = moved.1.of_type;
              stands = moved.1.at;
              is_path = moved.1.is_path;
              there = moved.2;
              valid = cond-true (nat_le (length bytes) 65536 && boots bytes) (Some (type1_item other (type1_of bytes))) None read.0;
            }) value said name is counted names
        | inr named ↦ named value said name is names
      ]

  by_suffix : (suffix : Suffix) (item : MenuItem) (name : List ℕ) (bytes : List ℕ) → is_file_name name ≡ true → has_suffix suffix name ≡ true
      → item.path ≡ under (folder_of (folders_at esp) suffix) name → path_of item.path ≡ Some item.path → map.get next item.path ≡ Some bytes
      → entry_of suffix item.path bytes ≡ Some item
      → (value : List ℕ) → Contains (option_to_list item.linux ++ item.initrds) value → (digits : List ℕ) → is_payload_name digits ≡ true → counts digits ≡ true
      → path_of_value esp value ≡ Some (under (payload_folder esp) digits) → HasPayload esp digits view
  by_suffix Conf item name bytes is_name of_type stands is_path there valid value among digits is counted names =
      by_conf item item.path bytes (record { name = name; is_name = is_name; of_type = of_type; at = stands; is_path = is_path }) there valid value among digits is counted names
  by_suffix Efi item name bytes is_name of_type stands is_path there valid value among digits is counted names =
      absurd (none_named item bytes valid value among)
    where
      none_named : (item : MenuItem) (bytes : List ℕ) → entry_of Efi item.path bytes ≡ Some item → (value : List ℕ) → Contains (option_to_list item.linux ++ item.initrds) value → ⊥
      none_named item bytes valid value among =
          let made = image_pairs item.path bytes item valid in
          no_value value (subst (λ (i : MenuItem). Contains (option_to_list i.linux ++ i.initrds) value) made.1 among)

  pub kept_by : AreNamedThere counts esp next
  kept_by item e value among name is counted names =
      stay name is (by_suffix e.suffix item e.name e.bytes e.is_name e.of_type e.stands e.is_path e.there e.valid value among name is counted names)

-- ---- each kind of change

module _ (counts : List ℕ → Bool) (esp : Path) (view : Files) (ok : AreNamedThere counts esp view) where
  -- a file is put, which is no payload; and it is no entry, or what it names is there
  pub put_kept : (at : Path) (bytes : List ℕ) → NotPayload esp at → (IsConfFile esp at → NamedOk esp view bytes) → AreNamedThere counts esp (map.insert view at bytes)
  put_kept at bytes not_payload named =
      let next = map.insert view at bytes in
      kept_by counts esp view next ok
      (λ name is payload. record {
        bytes = payload.bytes;
        there = get-insert_apart view at bytes (under (payload_folder esp) name) (same_apart (under (payload_folder esp) name) at (λ e. not_payload name is (sym e))) ∙ payload.there;
        is = payload.is;
      })
      (λ path text conf there. elim (cases_same path at) [
        | inl one ↦
            let text_is : bytes ≡ text = same_some bytes text (sym (ap (map.get next) one ∙ get-insert_here view at bytes) ∙ there) in
            inr (subst (NamedOk esp view) text_is (named (subst (IsConfFile esp) one conf)))
        | inr two ↦ inl (path, conf, sym (get-insert_apart view at bytes path two) ∙ there)
      ])
    where
      same_some : (a b : List ℕ) → Some a ≡ Some b → a ≡ b
      same_some a b e = cc

  -- a file goes that is no payload
  pub remove_kept : (at : Path) → NotPayload esp at → AreNamedThere counts esp (map.remove view at)
  remove_kept at not_payload =
      kept_by counts esp view (map.remove view at) ok
      (λ name is payload. record {
        bytes = payload.bytes;
        there = get-remove_apart view at (under (payload_folder esp) name) (same_apart (under (payload_folder esp) name) at (λ e. not_payload name is (sym e))) ∙ payload.there;
        is = payload.is;
      })
      (λ path text conf there. elim (cases_same path at) [
        | inl one ↦ absurd (none_some text (sym (ap (map.get (map.remove view at)) one ∙ get-remove_here view at) ∙ there))
        | inr two ↦ inl (path, conf, sym (get-remove_apart view at path two) ∙ there)
      ])
    where
      none_some : (a : List ℕ) → None ≡ Some a → ⊥
      none_some a e = cc

  -- a file gets another name, which is no payload under either; and among the entries only from there
  pub move_kept : (old new : Path) → NotPayload esp old → NotPayload esp new → has view old ≡ true → (IsConfFile esp new → IsConfFile esp old)
      → AreNamedThere counts esp (move_in old new view)
  unfolding move_in
  move_kept old new old_not new_not there_old back =
      let gone = map.remove view old in
      let next = map.insert gone new (contents view old) in
      kept_by counts esp view next ok
      (λ name is payload. record {
        bytes = payload.bytes;
        there = get-insert_apart gone new (contents view old) (under (payload_folder esp) name) (same_apart (under (payload_folder esp) name) new (λ e. new_not name is (sym e)))
            ∙ get-remove_apart view old (under (payload_folder esp) name) (same_apart (under (payload_folder esp) name) old (λ e. old_not name is (sym e))) ∙ payload.there;
        is = payload.is;
      })
      (λ path text conf there. elim (cases_same path new) [
        | inl one ↦
            let text_is : contents view old ≡ text = same_some (contents view old) text (sym (ap (map.get next) one ∙ get-insert_here gone new (contents view old)) ∙ there) in
            inl (old, back (subst (IsConfFile esp) one conf), found (map.get view old) there_old ∙ ap (λ (b : List ℕ). Some b) text_is)
        | inr two ↦ elim (cases_same path old) [
          | inl here ↦ absurd (none_some text (sym (get-insert_apart gone new (contents view old) path two ∙ ap (map.get gone) here ∙ get-remove_here view old) ∙ there))
          | inr off ↦ inl (path, conf, sym (get-insert_apart gone new (contents view old) path two ∙ get-remove_apart view old path off) ∙ there)
        ]
      ])
    where
      same_some : (a b : List ℕ) → Some a ≡ Some b → a ≡ b
      same_some a b e = cc

      none_some : (a : List ℕ) → None ≡ Some a → ⊥
      none_some a e = cc

      found : (file : Option (List ℕ)) → is_some file ≡ true → file ≡ Some (unwrap_or file [])
      found None is = cc
      found (Some bytes) is = refl

  -- a payload is put, of this ESP or of another
  pub payload_kept : (other : Path) (bytes : List ℕ) → AreNamedThere counts esp (map.insert view (payload_path other bytes) bytes)
  payload_kept other bytes =
      let at = payload_path other bytes in
      let next = map.insert view at bytes in
      kept_by counts esp view next ok (payload_stays esp other view bytes)
      (λ path text conf there. elim (cases_same path at) [
        | inl one ↦ absurd (payload_not_conf esp other bytes (subst (IsConfFile esp) one conf))
        | inr two ↦ inl (path, conf, sym (get-insert_apart view at bytes path two) ∙ there)
      ])
