-- Paths of files directly in a folder.
use Rattle.std.proofs.Common.{◌≡◌, inl, inr, ℕ, ◌+◌, ◌-◌, ◌<◌, Bool, true, false, not, List, [], ◌∷◌, ◌++◌, Option, Some, None, length, take, drop, get_or, refl, sym, ap, ◌∙◌, arith, zero, suc, lit<, length-append, append_assoc, get_or-append-add, drop_at, ◌==◌, nat_lt, bytes_eq, if◌then◌else◌}
use Rattle.std.specs.List.{list_any, onto_first}
use Rattle.std.proofs.lemmas.Bool.{cases_Bool, and_parts, or_parts, not-true, cond-true, cond-false, eqb-false}
use Rattle.std.proofs.lemmas.Bool.Decides.{Decides-eqb}
use Rattle.std.proofs.lemmas.Cmp.{nat_list_eq_equiv}
use Rattle.std.proofs.lemmas.List.{append_cancel_left, same_from_push}
use Rattle.std.proofs.lemmas.List.Splits.{length-slice_split}
use Rattle.std.proofs.lemmas.Slice.Eq.{bytes_eq-Decides, ends_is}
use Rattle.boot_base.specs.Paths.{Path, components, file_name_of, is_component, is_file_name, is_form, is_kept, is_normal, is_path, is_path_text, is_slash, is_temp, intent, normal_of, path_below, path_of, temp_end, under}
use Rattle.boot_base.proofs.Joined.{add_piece, is_kept-long, join_filtered, join_filtered-kept}
use Rattle.boot_base.proofs.LastComponent.{file_name_of-from}
use Rattle.boot_base.proofs.Normal.{path-some}
use Rattle.menu_order.proofs.Splitting.{suffix_cut}
use Rattle.menu_order.specs.Splits.{has_suffix, stem_of}
use Rattle.menu_order.specs.declared.counted.Suffix.{Suffix}
use Rattle.menu_order.specs.declared.counted.Suffix.TheVariants.{Conf, Efi}
use Rattle.boot_entries.specs.Entries.{own_path, reads_as}

-- ---- names

-- a name of a file counts as a component, and has no slash
pub name_parts : (name : List ℕ) → is_file_name name ≡ true → (is_kept name ≡ true) × (list_any is_slash name ≡ false)
unfolding is_file_name
name_parts name is =
    let all = and_parts _ _ is in
    let front = and_parts _ _ all.0 in
    let first = and_parts (is_component name) _ front.0 in
    let both = and_parts (is_kept name) (not (list_any is_slash name)) first.0 in
    (both.0, not-true (list_any is_slash name) both.1)

module _ {X : Type 0} (p : X → Bool) where
  none_at : (xs : List X) → list_any p xs ≡ false → (k : ℕ) (d : X) → k < length xs → p (get_or xs k d) ≡ false
  none_at [] none k d below = absurd (omega arith)
  none_at (x ∷ xs) none zero d below = (or_parts (p x) (list_any p xs) none).0
  none_at (x ∷ xs) none (suc k) d below = none_at xs (or_parts (p x) (list_any p xs) none).1 k d (omega arith)

-- the last component of a file's path is its name
pub file_name_under : (folder name : List ℕ) → list_any is_slash name ≡ false → file_name_of (under folder name) ≡ name
file_name_under folder name none =
    let s = under folder name in
    let long : length s ≡ length folder + suc (length name) = length-append folder (47 ∷ name) in
    let at : (k : ℕ) → get_or s (length folder + k) 0 ≡ get_or (47 ∷ name) k 0 = λ k. get_or-append-add folder (47 ∷ name) k 0 in
    file_name_of-from s (length folder + 1) (omega (arith, long))
    (λ k from below is.
    let here : get_or s k 0 ≡ get_or name (k - (length folder + 1)) 0 = ap (λ n. get_or s n 0) (omega arith) ∙ at (suc (k - (length folder + 1))) in
    eqb-false (get_or name (k - (length folder + 1)) 0) 47 (none_at is_slash name none (k - (length folder + 1)) 0 (omega (arith, long))) (sym here ∙ is))
    (λ some. ap (λ n. get_or s n 0) (omega arith) ∙ at 0)
    ∙ (ap (λ (l : List ℕ). drop (length folder + 1) l) (sym (append_assoc folder (47 ∷ []) name)) ∙ drop_at (folder ++ 47 ∷ []) name (length folder + 1) (length-append folder (47 ∷ [])))

-- ---- the normal form of a file's path

one_component : (name : List ℕ) → list_any is_slash name ≡ false → components name ≡ name ∷ []
one_component [] none = refl
one_component (b ∷ name) none =
    let parts = or_parts (is_slash b) (list_any is_slash name) none in
    rw (parts.0) (ap (onto_first b) (one_component name parts.1))

onto_more : (b : ℕ) (xs ys : List (List ℕ)) → 0 < length xs → onto_first b (xs ++ ys) ≡ onto_first b xs ++ ys
onto_more b [] ys some = absurd (omega arith)
onto_more b (x ∷ xs) ys some = refl

components_under : (folder name : List ℕ) → components (under folder name) ≡ components folder ++ components name
components_under [] name = refl
components_under (b ∷ folder) name = elim (cases_Bool (is_slash b)) [
  | inl slash ↦ rw slash (ap (λ (l : List (List ℕ)). [] ∷ l) (components_under folder name))
  | inr other ↦ rw other (ap (onto_first b) (components_under folder name) ∙ onto_more b (components folder) (components name) (omega (arith, length-slice_split is_slash folder)))
]

module _ (folder : Path) (normal : is_normal folder ≡ true) where
  normal_parts : (is_form folder ≡ true) × (bytes_eq (normal_of folder) folder ≡ true)
  unfolding is_normal
  normal_parts = let parts = and_parts _ _ normal in ((and_parts _ _ parts.0).1, parts.1)

  some_folder : (length folder == 0) ≡ false
  some_folder =
      let unlike = not-true _ normal_parts.0 in
      (or_parts (length folder == 0) (nat_lt 1024 (length folder)) (or_parts _ (is_temp folder) unlike).0).0

  normal_under : (name : List ℕ) → is_kept name ≡ true → list_any is_slash name ≡ false → normal_of (under folder name) ≡ under folder name
  normal_under name kept none =
      let itself : normal_of folder ≡ folder = (bytes_eq-Decides (normal_of folder) folder).0 normal_parts.1 in
      ap (join_filtered 47 is_kept) (components_under folder name ∙ ap (λ (l : List (List ℕ)). components folder ++ l) (one_component name none))
      ∙ join_filtered-kept 47 is_kept is_kept-long (components folder) name kept
      ∙ ap (λ (t : List ℕ). add_piece 47 t name) itself
      ∙ cond-false (length folder == 0) name (folder ++ (47 ∷ name)) some_folder

  below_is : (name : List ℕ) → is_kept name ≡ true → list_any is_slash name ≡ false → path_below folder name ≡ path_of (under folder name)
  below_is name kept none = rw (one_component name none, kept) refl

  own_by : (text : Path) (b : Bool) → is_path text ≡ b → normal_of text ≡ text → path_of text ≡ own_path text
  own_by text true is itself = rw (is, itself, nat_list_eq_equiv.refl text) refl
  own_by text false is itself = rw is refl

  -- what is read for a file of that name in the folder is its path, where that is the path of a boot file
  pub below_own : (name : List ℕ) → is_file_name name ≡ true → path_below folder name ≡ own_path (under folder name)
  below_own name is =
      let parts = name_parts name is in
      below_is name parts.0 parts.1 ∙ own_by (under folder name) (is_path (under folder name)) refl (normal_under name parts.0 parts.1)

-- ---- paths of boot files

pub own_some : (text : Path) → path_of text ≡ Some text → own_path text ≡ Some text
own_some text is = ap (λ o. if reads_as text o then Some text else None) is ∙ rw (nat_list_eq_equiv.refl text) refl

own_read : (text path : Path) (o : Option Path) → path_of text ≡ o → (if reads_as text o then Some text else None) ≡ Some path → (path_of text ≡ Some text) × (path ≡ text)
own_read text path None read is = cc
own_read text path (Some normal) read is = elim (cases_Bool (bytes_eq normal text)) [
  | inl same ↦ (read ∙ ap (λ (p : Path). Some p) ((bytes_eq-Decides normal text).0 same), same_some text path (sym (cond-true (bytes_eq normal text) (Some text) None same) ∙ is))
  | inr other ↦ absurd (none_some path (sym (cond-false (bytes_eq normal text) (Some text) None other) ∙ is))
]
  where
    same_some : (a b : Path) → Some a ≡ Some b → b ≡ a
    same_some a b e = cc

    none_some : (b : Path) → None ≡ Some b → ⊥
    none_some b e = cc

pub own_is : (text path : Path) → own_path text ≡ Some path → (path_of text ≡ Some text) × (path ≡ text)
own_is text path is = own_read text path (path_of text) refl is

-- the last component of a path that was read for a file's name is that name
pub named_own : (folder name path : List ℕ) → is_file_name name ≡ true → own_path (under folder name) ≡ Some path → file_name_of path ≡ name
named_own folder name path is read = ap file_name_of (own_is (under folder name) path read).1 ∙ file_name_under folder name (name_parts name is).1

-- no path is that of a temporary file
pub path_shown : (path : Path) → path_of path ≡ Some path → is_temp path ≡ false
path_shown path is =
    let read = path-some (is_path path) (normal_of path) path is in
    let named = and_parts (is_form (normal_of path)) (not (bytes_eq (normal_of path) intent)) (and_parts _ (is_path_text (normal_of path)) read.0).1 in
    ap is_temp (sym read.1) ∙ (or_parts _ (is_temp (normal_of path)) (not-true _ named.0)).1

differ : (m n : ℕ) → m < n → n ≡ m → ⊥
differ m n below e = omega arith

not_temp_end : (front text : List ℕ) (last : ℕ) → last < 112 → is_temp (front ++ (text ++ last ∷ [])) ≡ false
unfolding is_temp
not_temp_end front text last low = elim (cases_Bool (is_temp (front ++ (text ++ last ∷ [])))) [
  | inl temp ↦
      let whole = front ++ (text ++ last ∷ []) in
      let cut = (ends_is Decides-eqb whole temp_end (is_temp whole) refl).0 temp in
      let stem = take (length whole - 4) whole in
      let same : (front ++ text) ++ last ∷ [] ≡ (stem ++ (46 ∷ 116 ∷ 109 ∷ [])) ++ 112 ∷ [] =
      append_assoc front text (last ∷ []) ∙ cut ∙ sym (append_assoc stem (46 ∷ 116 ∷ 109 ∷ []) (112 ∷ [])) in
      absurd (differ last 112 low (sym (same_from_push (front ++ text) (stem ++ (46 ∷ 116 ∷ 109 ∷ [])) last 112 same).1))
  | inr shown ↦ shown
]

-- nor is that of a file whose name has the suffix of a type
pub suffix_shown : (suffix : Suffix) (folder name : List ℕ) → has_suffix suffix name ≡ true → is_temp (under folder name) ≡ false
suffix_shown Conf folder name has =
    let stem = stem_of Conf name in
    ap (λ (n : List ℕ). is_temp (under folder n)) (suffix_cut Conf name has ∙ sym (append_assoc stem (46 ∷ 99 ∷ 111 ∷ 110 ∷ []) (102 ∷ [])))
    ∙ not_temp_end folder (47 ∷ (stem ++ (46 ∷ 99 ∷ 111 ∷ 110 ∷ []))) 102 (lit< tt)
suffix_shown Efi folder name has =
    let stem = stem_of Efi name in
    ap (λ (n : List ℕ). is_temp (under folder n)) (suffix_cut Efi name has ∙ sym (append_assoc stem (46 ∷ 101 ∷ 102 ∷ []) (105 ∷ [])))
    ∙ not_temp_end folder (47 ∷ (stem ++ (46 ∷ 101 ∷ 102 ∷ []))) 105 (lit< tt)

-- two files in a folder have two paths
pub under_same : (folder a b : List ℕ) → under folder a ≡ under folder b → a ≡ b
under_same folder a b is = let tails : 47 ∷ a ≡ 47 ∷ b = append_cancel_left folder (47 ∷ a) (47 ∷ b) is in cc
