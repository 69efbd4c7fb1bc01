-- The folders above a path, and what is added for them.
use Rattle.std.proofs.Common.{◌≡◌, ◌≢◌, ℕ, ◌<◌, Bool, true, false, List, [], ◌∷◌, ◌++◌, length, get_or, take, drop, zero, suc, Option, Some, None, refl, sym, ap, ◌∙◌, arith, length-append, ◌==◌, ◌&&◌, MatchOption, if◌then◌else◌, Bor, take-append-drop}
use Rattle.std.specs.List.{list_any}
use Rattle.std.specs.Str.Pattern.{HasCharAt, RFindsChar, SplitsAroundMatch}
use Rattle.std.specs.Str.{NoCharPasses}
use Rattle.std.proofs.lemmas.Bool.{or_parts}
use Rattle.std.proofs.lemmas.Str.Pattern.{NoCharPasses-char, drop_at_char}
use borrow.Author.Tests.{ne_eqb}
use Rattle.boot_base.specs.Paths.{is_slash}
use Rattle.name_syncs.specs.Folders.{IsCut, folders_above, has_folder, parts_before_slashes, unsettled_above, with_folder, with_folders}
use Rattle.name_syncs.specs.declared.folders.FolderSet.{FolderSet}

-- ---- a path that is cut at its last slash

none_from_places : (s : List ℕ) → ((k : ℕ) → k < length s → get_or s k 0 ≢ 47) → list_any is_slash s ≡ false
none_from_places [] at = refl
none_from_places (byte ∷ s) at =
    rw (ne_eqb byte 47 (at zero (omega arith)), none_from_places s (λ k below. at (suc k) (omega arith))) refl

pub no_slash : (s : List ℕ) → NoCharPasses (λ d. d == 47) s → list_any is_slash s ≡ false
no_slash s none = none_from_places s (λ k below. NoCharPasses-char 47 s k none (omega arith) below)

-- what a search for the last slash finds
pub cut_found : (s : List ℕ) (i j : ℕ) → NoCharPasses (λ d. d == 47) (drop j s) → HasCharAt 47 s i j → IsCut s (take i s) (drop j s)
cut_found s i j none at = record {
  whole = sym (take-append-drop i s) ∙ ap (λ (rest : List ℕ). take i s ++ rest) (drop_at_char 47 s i j at (omega arith));
  last = no_slash (drop j s) none;
}

-- what a search for the last slash says
pub cut_from : (s : List ℕ) (found : Option (Bor (List ℕ) × Bor (List ℕ)))
    → MatchOption found (NoCharPasses (λ d. d == 47) s) (λ parts. SplitsAroundMatch (RFindsChar 47) s parts.0.now parts.1.now)
    → MatchOption found (list_any is_slash s ≡ false) (λ parts. IsCut s parts.0.now parts.1.now)
cut_from s None none = no_slash s none
cut_from s (Some parts) at =
    let behind = drop_at_char 47 s at.0 at.1 at.2.1 (omega arith) in
    let whole : s ≡ take at.0 s ++ 47 ∷ drop at.1 s =
    sym (take-append-drop at.0 s) ∙ ap (λ (rest : List ℕ). take at.0 s ++ rest) behind in
    record {
      whole = rw (at.3, at.4) whole;
      last = rw at.4 (no_slash (drop at.1 s) at.2.0);
    }

pub parts_none : (path : List ℕ) → list_any is_slash path ≡ false → parts_before_slashes path ≡ []
parts_none [] none = refl
parts_none (byte ∷ rest) none =
    let parts = or_parts (is_slash byte) (list_any is_slash rest) none in
    rw (parts_none rest parts.1, parts.0) refl

parts_behind : (folder name : List ℕ) → list_any is_slash name ≡ false
    → parts_before_slashes (folder ++ 47 ∷ name) ≡ folder ∷ parts_before_slashes folder
parts_behind [] name none = rw (parts_none name none) refl
parts_behind (byte ∷ folder) name none = rw (parts_behind folder name none) refl

pub parts_cut : (path folder name : List ℕ) → IsCut path folder name
    → parts_before_slashes path ≡ folder ∷ parts_before_slashes folder
parts_cut path folder name r = ap parts_before_slashes r.whole ∙ parts_behind folder name r.last

pub shorter : (path folder name : List ℕ) → IsCut path folder name → length folder < length path
shorter path folder name r = omega (arith, ap length r.whole, length-append folder (47 ∷ name))

-- ---- what is added

pub with_folders-append : (folders : FolderSet) (front back : List (List ℕ))
    → with_folders folders (front ++ back) ≡ with_folders (with_folders folders front) back
with_folders-append folders [] back = refl
with_folders-append folders (folder ∷ front) back = with_folders-append (with_folder folders folder) front back

-- a step of the loop that adds the folders above
pub add_step : (folders : FolderSet) (path folder name : List ℕ) → IsCut path folder name
    → with_folders folders (parts_before_slashes path) ≡ with_folders (with_folder folders folder) (parts_before_slashes folder)
add_step folders path folder name r = ap (with_folders folders) (parts_cut path folder name r)

skip_or_add : (settled : Bool) (folders : FolderSet) (folder : List ℕ) (higher : List (List ℕ))
    → with_folders folders (if settled then higher else (folder ∷ higher))
    ≡ with_folders (with_folders folders (if settled then [] else (folder ∷ []))) higher
skip_or_add true folders folder higher = refl
skip_or_add false folders folder higher = refl

-- a step of the loop that adds the unsettled ones
pub unsettled_step : (folders settled : FolderSet) (path folder name : List ℕ) → IsCut path folder name
    → with_folders folders (unsettled_above settled path (folders_above path))
    ≡ with_folders (with_folders folders (unsettled_above settled path (folder ∷ []))) (unsettled_above settled folder (folders_above folder))
unsettled_step folders settled path folder name r =
    ap (λ (parts : List (List ℕ)). with_folders folders (unsettled_above settled path (parts ++ [] ∷ []))) (parts_cut path folder name r)
    ∙ skip_or_add (has_folder settled path && has_folder settled folder) folders folder (unsettled_above settled folder (folders_above folder))
