-- The files among the names of a folder, gone through in their order.
use Rattle.std.proofs.Common.{◌≡◌, ℕ, ◌+◌, ◌<◌, true, ◌&&◌, cond, List, ◌∷◌, [], ◌++◌, length, map, get_or, take, sym, ap, ◌∙◌, String, Global, string_bytes, if◌then◌else◌}
use Rattle.std.proofs.lemmas.List.{map-append, take_more}
use Rattle.std.proofs.lemmas.List.Elements.{filter-append}
use Rattle.boot_base.specs.Paths.{is_file_name}
use Rattle.name_syncs.specs.Folders.{path_in}
use Rattle.folder_calls.specs.Tree.{Tree}
use Rattle.folder_machine.specs.Listing.{files_in, is_file_in, leads_to_file}

-- those among the names before a place
abbrev pub files_before : Tree → List ℕ → List (String Global) → ℕ → List (List ℕ)
files_before tree folder names i = files_in tree folder (map string_bytes (take i names))

module _ (tree : Tree) (folder : List ℕ) (names : List (String Global)) (i : ℕ) (item : String Global)
    (inside : i < length names) (at : item ≡ get_or names i item) where
  more_is : files_before tree folder names (i + 1)
      ≡ files_before tree folder names i ++ files_in tree folder (string_bytes item ∷ [])
  more_is =
      ap (λ all. files_in tree folder (map string_bytes all)) (take_more names i item inside)
      ∙ ap (files_in tree folder) (map-append string_bytes (take i names) (get_or names i item ∷ []))
      ∙ filter-append (is_file_in tree folder) (map string_bytes (take i names)) (string_bytes (get_or names i item) ∷ [])
      ∙ ap (λ (text : String Global). files_before tree folder names i ++ files_in tree folder (string_bytes text ∷ [])) (sym at)

  -- a name more, which leads to a file
  pub one_more : leads_to_file tree (path_in folder (string_bytes item)) ≡ true
      → files_before tree folder names (i + 1)
      ≡ files_before tree folder names i ++ (if is_file_name (string_bytes item) then string_bytes item ∷ [] else [])
  one_more leads =
      more_is
      ∙ ap (λ leads. files_before tree folder names i ++ cond (leads && is_file_name (string_bytes item)) (string_bytes item ∷ []) []) leads
