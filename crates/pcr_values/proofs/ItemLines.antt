-- The lines of registers, after the words of each path.
use Rattle.std.proofs.Common.{◌≡◌, ℕ, List, [], ◌∷◌, ◌++◌, map, refl, sym, ap, ◌∙◌, flat_map}
use Rattle.std.proofs.lemmas.List.Sums.{fold-append}
use Rattle.pcr_values.specs.declared.bank.Bank.{Bank}
use Rattle.pcr_values.specs.declared.pcr.Pcr.{Pcr}
use Rattle.pcr_values.specs.Prelude.{extend_data, extend_all, fold_of, fold_pcr, zero_of, pcr_value, heading_of, line_after, value_line, value_lines}

-- the heading of a path, and the lines of registers after the path's words
abbrev pub lines_of : List Pcr → List (List ℕ) → List ℕ
lines_of starts path = heading_of path ++ flat_map (line_after path) starts

-- the line of a register after a path's words, by its bank and its value
abbrev pub shown_after : List (List ℕ) → Bank × List ℕ → List ℕ
shown_after path start = value_line start.0 (extend_all start.0 start.1 path)

lines_shown : (path : List (List ℕ)) (starts : List Pcr) → flat_map (line_after path) starts ≡ flat_map (shown_after path) (map pcr_value starts)
lines_shown path [] = refl
lines_shown path (start ∷ starts) = ap (λ (more : List ℕ). line_after path start ++ more) (lines_shown path starts)

path_lines : (items : Bank → List (List ℕ)) (path : List (List ℕ)) (banks : List Bank)
    → flat_map (shown_after path) (map (λ bank. fold_pcr (items bank) bank) banks) ≡ flat_map (λ bank. value_line bank (fold_of bank (items bank ++ path))) banks
path_lines items path [] = refl
path_lines items path (bank ∷ banks) =
    ap (λ (bytes : List ℕ). value_line bank bytes ++ flat_map (shown_after path) (map (λ bank. fold_pcr (items bank) bank) banks)) (sym (fold-append (extend_data bank) (zero_of bank) (items bank) path))
    ∙ ap (λ (more : List ℕ). value_line bank (fold_of bank (items bank ++ path)) ++ more) (path_lines items path banks)

-- what registers come to after the words of a path is what the items and the words come to
pub lines_of-items : (starts : List Pcr) (items : Bank → List (List ℕ)) (banks : List Bank) → map pcr_value starts ≡ map (λ bank. fold_pcr (items bank) bank) banks
    → (paths : List (List (List ℕ))) → flat_map (lines_of starts) paths ≡ value_lines (λ bank path. fold_of bank (items bank ++ path)) banks paths
lines_of-items starts items banks are [] = refl
lines_of-items starts items banks are (path ∷ paths) =
    ap (λ (lines : List ℕ). (heading_of path ++ lines) ++ flat_map (lines_of starts) paths) (lines_shown path starts ∙ ap (flat_map (shown_after path)) are ∙ path_lines items path banks)
    ∙ ap (λ (more : List ℕ). (heading_of path ++ flat_map (λ bank. value_line bank (fold_of bank (items bank ++ path))) banks) ++ more) (lines_of-items starts items banks are paths)
