-- The name of an installed image's file is the last component of its path.
use Rattle.std.proofs.Common.{◌≡◌, inl, inr, ℕ, ◌≤◌, Bool, true, false, List, ◌∷◌, ◌++◌, Option, Some, None, Result, Ok, Err, length, refl, sym, ap, ◌∙◌, arith, lit<, length-append, append_assoc, IfSome, ◌==◌, if◌then◌else◌, decimal}
use Rattle.std.specs.List.{list_any}
use Rattle.std.proofs.lemmas.Bool.{cases_Bool, cond-false, cond-true}
use Rattle.boot_base.specs.Layout.{images_below}
use Rattle.boot_base.specs.Paths.{Path, components, file_name_of, is_kept, is_path, is_slash, normal_of, path_below, path_of, under}
use Rattle.boot_base.proofs.Joined.{add_piece, is_kept-long, join_filtered, join_filtered-kept}
use Rattle.boot_base.proofs.Normal.{path-some}
use Rattle.boot_base.specs.declared.refusal.Refusal.{Refusal}
use Rattle.menu_order.specs.declared.counted.Suffix.TheVariants.{Efi}
use Rattle.menu_order.specs.Counter.{suffix_text}
use Rattle.menu_order.specs.Splits.{has_suffix}
use Rattle.menu_order.proofs.Splitting.{suffix_there}
use Rattle.command_plans.specs.Prelude.{◌>>=◌, path_in, path_or, path_under}
use Rattle.entry_commands.specs.Installing.{IsImageName, image_name, image_path}
use Rattle.boot_base.proofs.Beside.{file_name_under, file_name_whole, kept_from_long, none-append, one_more}
use Rattle.entry_commands.proofs.Siblings.{decimal_lacks}

-- ---- the name

-- it has no slash
file_name_one : (name : List ℕ) (tries : Option ℕ) → list_any is_slash name ≡ false → IfSome tries (λ n. n ≤ 999999999)
    → list_any is_slash (image_name name tries) ≡ false
file_name_one name None none few = none-append is_slash name (suffix_text Efi) none refl
file_name_one name (Some tries) none few =
    let digits = decimal_lacks 47 tries (lit< tt) few in
    none-append is_slash name (43 ∷ (decimal tries ++ suffix_text Efi)) none
    (none-append is_slash (decimal tries) (suffix_text Efi) digits refl)

-- it ends in the suffix of images
abbrev stem : List ℕ → Option ℕ → List ℕ
stem name None = name
stem name (Some tries) = name ++ (43 ∷ decimal tries)

file_name_is : (name : List ℕ) (tries : Option ℕ) → image_name name tries ≡ stem name tries ++ suffix_text Efi
file_name_is name None = refl
file_name_is name (Some tries) = sym (append_assoc name (43 ∷ decimal tries) (suffix_text Efi))

file_name_kept : (name : List ℕ) (tries : Option ℕ) → is_kept (image_name name tries) ≡ true
file_name_kept name tries =
    let whole = ap length (file_name_is name tries) in
    kept_from_long (image_name name tries) (omega (arith, whole, length-append (stem name tries) (suffix_text Efi)))

-- ---- the path

module _ (name : List ℕ) (kept : is_kept name ≡ true) (none : list_any is_slash name ≡ false) where
  added_last : (text : List ℕ) → file_name_of (add_piece 47 text name) ≡ name
  added_last text = elim (cases_Bool (length text == 0)) [
    | inl empty ↦
        ap file_name_of (cond-true (length text == 0) name (under text name) empty) ∙ file_name_whole name none
    | inr some ↦
        ap file_name_of (cond-false (length text == 0) name (under text name) some) ∙ file_name_under text name none
  ]

  -- a name that counts is the last component of what its path reads as
  pub read_last : (folder : List ℕ) → file_name_of (normal_of (under folder name)) ≡ name
  read_last folder =
      ap (λ (ps : List (List ℕ)). file_name_of (join_filtered 47 is_kept ps)) (one_more folder name none)
      ∙ ap file_name_of (join_filtered-kept 47 is_kept is_kept-long (components folder) name kept)
      ∙ added_last (normal_of folder)

there : (b : Bool) (read : Option Path) (target : Path) → (if b then read else None) ≡ Some target → read ≡ Some target
there true read target is = is
there false read target is = cc

-- a file in the folder of images has its name as the last component of its path
last_in_images : (esp file : List ℕ) (target : Path) → is_kept file ≡ true → list_any is_slash file ≡ false
    → path_below esp (under images_below file) ≡ Some target → file_name_of target ≡ file
last_in_images esp file target kept none is =
    let below = under images_below file in
    let text = under esp below in
    let images = under esp images_below in
    let read = there (list_any is_kept (components below)) (path_of text) target is in
    let normal = path-some (is_path text) (normal_of text) target read in
    let parts : text ≡ under images file = sym (append_assoc esp (47 ∷ images_below) (47 ∷ file)) in
    ap file_name_of (sym normal.1 ∙ ap normal_of parts) ∙ read_last file kept none images

found : (text : List ℕ) (read : Option Path) (target : Path) → path_or text read ≡ Ok target → read ≡ Some target
found text None target is = cc
found text (Some path) target is = cc

next_of : {A B : Type 0} (first : Result A Refusal) (next : A → Result B Refusal) (b : B) → (first >>= next) ≡ Ok b → (a : A) × (next a ≡ Ok b)
next_of (Ok a) next b is = (a, is)
next_of (Err why) next b is = cc

-- the file of an image
pub image_file : (name file : List ℕ) (tries : Option ℕ) → list_any is_slash name ≡ false → IfSome tries (λ n. n ≤ 999999999)
    → file ≡ image_name name tries → IsImageName file
image_file name file tries none few is = record {
  suffix = suffix_there Efi file (stem name tries) (is ∙ file_name_is name tries);
  kept = ap is_kept is ∙ file_name_kept name tries;
  no_slash = ap (list_any is_slash) is ∙ file_name_one name tries none few;
}

-- where it stands
pub target_suffix : (word file : List ℕ) (target : Path) → IsImageName file → image_path word file ≡ Ok target
    → has_suffix Efi (file_name_of target) ≡ true
target_suffix word file target image is =
    let esp = next_of (path_in word) (λ esp. path_under esp (under images_below file)) target is in
    ap (has_suffix Efi) (last_in_images esp.0 file target image.kept image.no_slash (found _ _ target esp.1)) ∙ image.suffix
