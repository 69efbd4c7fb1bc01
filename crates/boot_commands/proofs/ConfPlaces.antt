-- No loader.conf of an EFI system partition stands where an entry of one does.
use Rattle.std.proofs.Common.{◌≡◌, ◌≢◌, inl, inr, ℕ, ◌<◌, Bool, true, false, List, [], ◌∷◌, ◌++◌, length, Some, None, Result, Ok, Err, refl, sym, ap, ◌∙◌, arith, append_assoc, length-append, ◌==◌, codes, if◌then◌else◌}
use Rattle.std.specs.List.{list_any, onto_first}
use Rattle.std.proofs.lemmas.Bool.{cases_Bool, cond-true, cond-false, ne_eqb}
use Rattle.std.proofs.lemmas.List.{append_cancel_right, same_from_push}
use Rattle.boot_base.specs.Paths.{Path, components, file_name_of, is_kept, is_path, is_slash, normal_of, under}
use Rattle.boot_base.specs.declared.refusal.Refusal.{Refusal}
use Rattle.boot_base.proofs.Joined.{add_piece, is_kept-long, join_filtered, join_filtered-kept}
use Rattle.boot_entries.specs.Entries.{folder_of}
use Rattle.boot_entries.specs.declared.folders.Folders.{Folders}
use Rattle.boot_entries.proofs.Places.{file_name_under, name_parts}
use Rattle.boot_machine.specs.Prelude.{Files}
use Rattle.command_plans.specs.Prelude.{◌>>=◌, path_in, path_or, path_under, folders_of}
use Rattle.menu_order.specs.declared.counted.Suffix.{Suffix}
use Rattle.menu_order.specs.declared.counted.Suffix.TheVariants.{Conf, Efi}
use Rattle.boot_base.specs.Layout.{entries_below, images_below}
use Rattle.entry_commands.specs.GoodEntries.{HasGoodEntry}
use Rattle.loader_commands.specs.Places.{conf_below, conf_path}

-- ---- what a path below a folder ends in

-- the components of what is below a folder come last
last_pieces : (folder below : List ℕ) → (first : List ℕ) × (rest : List (List ℕ)) × (components (under folder below) ≡ (first ∷ rest) ++ components below)
last_pieces [] below = ([], [], refl)
last_pieces (b ∷ folder) below =
    let behind = last_pieces folder below in
    elim (cases_Bool (is_slash b)) [
      | inl slash ↦ ([], behind.0 ∷ behind.1, rw slash (ap (λ (l : List (List ℕ)). [] ∷ l) behind.2))
      | inr other ↦ (b ∷ behind.0, behind.1, rw other (ap (onto_first b) behind.2))
    ]

-- a text with one more component behind it ends in that
ends_in : (text last : List ℕ) → (front : List ℕ) × (add_piece 47 text last ≡ front ++ last)
ends_in text last = elim (cases_Bool (length text == 0)) [
  | inl none ↦ ([], cond-true (length text == 0) last (under text last) none)
  | inr some ↦ (text ++ 47 ∷ [], cond-false (length text == 0) last (under text last) some ∙ sym (append_assoc text (47 ∷ []) last))
]

behind_some : (text last : List ℕ) → 0 < length text → add_piece 47 text last ≡ under text last
behind_some text last some = cond-false (length text == 0) last (under text last) (ne_eqb (length text) 0 (λ none. omega arith))

module _ (first last : List ℕ) (first_kept : is_kept first ≡ true) (last_kept : is_kept last ≡ true) where
  -- the normal form of what ends in these two components
  normal_ends : (pieces : List (List ℕ)) → (front : List ℕ) × (join_filtered 47 is_kept (pieces ++ first ∷ last ∷ []) ≡ under (front ++ first) last)
  normal_ends pieces =
      let before = join_filtered 47 is_kept pieces in
      let end = ends_in before first in
      let some : 0 < length (end.0 ++ first) = omega (arith, length-append end.0 first, is_kept-long first first_kept) in (
        end.0,
        ap (join_filtered 47 is_kept) (sym (append_assoc pieces (first ∷ []) (last ∷ [])))
            ∙ join_filtered-kept 47 is_kept is_kept-long (pieces ++ first ∷ []) last last_kept
            ∙ ap (λ (t : List ℕ). add_piece 47 t last) (join_filtered-kept 47 is_kept is_kept-long pieces first first_kept ∙ end.1)
            ∙ behind_some (end.0 ++ first) last some,
      )

  -- the path of two components below a folder ends in them
  pub below_ends : (folder below path : List ℕ) → components below ≡ first ∷ last ∷ [] → path_under folder below ≡ Ok path → (front : List ℕ) × (path ≡ under (front ++ first) last)
  below_ends folder below path two is =
      let pieces = last_pieces folder below in
      let ends = normal_ends (pieces.0 ∷ pieces.1) in
      let whole = ap (join_filtered 47 is_kept) (pieces.2 ∙ ap (λ (l : List (List ℕ)). (pieces.0 ∷ pieces.1) ++ l) two) in
      (ends.0, sym (by (list_any is_kept (components below)) (is_path (under folder below)) is) ∙ whole ∙ ends.1)
    where
      by : (counts reads : Bool) → path_or (under folder below)
          (if counts then (if reads then Some (normal_of (under folder below)) else None) else None) ≡ Ok path → normal_of (under folder below) ≡ path
      by true true is = cc
      by true false is = cc
      by false reads is = cc

-- ---- no folder of entries is that of a loader.conf

pub last_byte : (front other name last : List ℕ) (b c : ℕ) → b ≢ c → list_any is_slash name ≡ false → list_any is_slash last ≡ false → under (front ++ b ∷ []) name ≡ under (other ++ c ∷ []) last → ⊥
last_byte front other name last b c unlike one single is =
    let same = sym (file_name_under (front ++ b ∷ []) name one) ∙ ap file_name_of is ∙ file_name_under (other ++ c ∷ []) last single in
    let folders = append_cancel_right (front ++ b ∷ []) (other ++ c ∷ []) (47 ∷ last) (ap (λ (l : List ℕ). (front ++ b ∷ []) ++ 47 ∷ l) (sym same) ∙ is) in
    unlike (same_from_push front other b c folders).1

-- where a folder ends in another byte, no file in it stands where a loader.conf does
apart_from_conf : (folder name esp : List ℕ) (front : List ℕ) (b : ℕ) → folder ≡ front ++ b ∷ [] → b ≢ 114
    → list_any is_slash name ≡ false → (path : Path) → path ≡ under folder name → conf_path esp ≢ Ok path
apart_from_conf folder name esp front b ends unlike one path stands is = at (path_in esp) is
  where
    at : (read : Result Path Refusal) → (read >>= λ esp. path_under esp conf_below) ≡ Ok path → ⊥
    at (Err why) is = cc
    at (Ok esp) is =
        let conf = below_ends (codes "loader") (codes "loader.conf") refl refl esp conf_below path refl is in
        let loader : conf.0 ++ codes "loader" ≡ (conf.0 ++ codes "loade") ++ 114 ∷ [] = sym (append_assoc conf.0 (codes "loade") (114 ∷ [])) in
        last_byte front (conf.0 ++ codes "loade") name (codes "loader.conf") b 114 unlike one refl
        (ap (λ (f : List ℕ). under f name) (sym ends) ∙ sym stands ∙ conf.1 ∙ ap (λ (f : List ℕ). under f (codes "loader.conf")) loader)

record AreBelow (folders : Folders) : Type 0 where
  esp : Path
  entries : path_under esp entries_below ≡ Ok folders.entries
  images : path_under esp images_below ≡ Ok folders.images

are_below : (word : List ℕ) (folders : Folders) → folders_of word ≡ Ok folders → AreBelow folders
are_below word folders is = at (path_in word) is
  where
    given : (entries images : Path) → ◌≡◌ {A = Result Folders Refusal} (Ok (record { entries = entries; images = images })) (Ok folders)
        → ◌≡◌ {A = Folders} (record { entries = entries; images = images }) folders
    given entries images is = cc

    both : (esp : Path) (entries images : Result Path Refusal) → path_under esp entries_below ≡ entries → path_under esp images_below ≡ images
        → (entries >>= λ entries. images >>= λ images. Ok (record { entries = entries; images = images })) ≡ Ok folders → AreBelow folders
    both esp (Ok entries) (Ok images) first second is =
        let same = given entries images is in
        record { esp = esp; entries = first ∙ ap (λ (f : Folders). Ok f.entries) same; images = second ∙ ap (λ (f : Folders). Ok f.images) same }
    both esp (Ok entries) (Err why) first second is = cc
    both esp (Err why) images first second is = cc

    at : (read : Result Path Refusal) → (read >>= λ esp. path_under esp entries_below >>= λ entries. path_under esp images_below >>= λ images. Ok
        (record { entries = entries; images = images })) ≡ Ok folders → AreBelow folders
    at (Ok esp) is = both esp (path_under esp entries_below) (path_under esp images_below) refl refl is
    at (Err why) is = cc

-- no loader.conf stands at the path of an entry of an ESP
pub conf_apart : (word esp : List ℕ) (folders : Folders) (path : Path) (view : Files) → folders_of word ≡ Ok folders → HasGoodEntry folders path view → conf_path esp ≢ Ok path
conf_apart word esp folders path view read entry = by entry.entry.suffix (sym entry.at ∙ entry.entry.stands)
  where
    below : AreBelow folders
    below = are_below word folders read

    one : list_any is_slash entry.entry.name ≡ false
    one = (name_parts entry.entry.name entry.entry.is_name).1

    by : (suffix : Suffix) → path ≡ under (folder_of folders suffix) entry.entry.name → conf_path esp ≢ Ok path
    by Conf stands =
        let ends = below_ends (codes "loader") (codes "entries") refl refl below.esp entries_below folders.entries refl below.entries in
        apart_from_conf folders.entries entry.entry.name esp (under (ends.0 ++ codes "loader") (codes "entrie")) 115
        (ends.1 ∙ sym (append_assoc (ends.0 ++ codes "loader") (47 ∷ codes "entrie") (115 ∷ []))) (λ is. omega arith) one path stands
    by Efi stands =
        let ends = below_ends (codes "EFI") (codes "Linux") refl refl below.esp images_below folders.images refl below.images in
        apart_from_conf folders.images entry.entry.name esp (under (ends.0 ++ codes "EFI") (codes "Linu")) 120
        (ends.1 ∙ sym (append_assoc (ends.0 ++ codes "EFI") (47 ∷ codes "Linu") (120 ∷ []))) (λ is. omega arith) one path stands
