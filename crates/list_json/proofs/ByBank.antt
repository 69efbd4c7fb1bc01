-- Values by register, and by bank.
use Rattle.std.proofs.Common.{◌≡◌, ℕ, List, [], ◌∷◌, ◌++◌, map, Some, refl, sym, ap, ◌∙◌}
use Rattle.std.proofs.lemmas.List.Sums.{fold-append}
use Rattle.pcr_values.specs.declared.bank.Bank.{Bank}
use Rattle.pcr_values.specs.declared.pcr.Pcr.{Pcr}
use Rattle.pcr_values.specs.Prelude.{bank_name, extend_data, extend_all, fold_of, fold_pcr, zero_of, pcr_value}
use Rattle.serde_json.specs.Data.{Data, array}
use Rattle.serde_json.specs.View.{items_of}
use Rattle.list_json.specs.Objects.{MaybeMember, object_of}
use Rattle.list_json.specs.Registers.{bank_member, register_member, registers_data, value_data, values_data}

-- the member of a register, by its bank and its value
abbrev shown_member : List (List (List ℕ)) → Bank × List ℕ → MaybeMember
shown_member paths start = bank_member (extend_all start.0 start.1) (bank_name start.0) paths

shown : (paths : List (List (List ℕ))) (starts : List Pcr) → map (register_member paths) starts ≡ map (shown_member paths) (map pcr_value starts)
shown paths [] = refl
shown paths (start ∷ starts) = ap (λ (more : List MaybeMember). register_member paths start ∷ more) (shown paths starts)

folded : (items : Bank → List (List ℕ)) (bank : Bank) (paths : List (List (List ℕ)))
    → map (λ path. value_data path (extend_all bank (fold_of bank (items bank)) path)) paths ≡ map (λ path. value_data path (fold_of bank (items bank ++ path))) paths
folded items bank [] = refl
folded items bank (path ∷ paths) =
    ap (λ (bytes : List ℕ). value_data path bytes ∷ map (λ path. value_data path (extend_all bank (fold_of bank (items bank)) path)) paths) (sym (fold-append (extend_data bank) (zero_of bank) (items bank) path))
    ∙ ap (λ (more : List Data). value_data path (fold_of bank (items bank ++ path)) ∷ more) (folded items bank paths)

members : (items : Bank → List (List ℕ)) (paths : List (List (List ℕ))) (banks : List Bank)
    → map (shown_member paths) (map (λ bank. fold_pcr (items bank) bank) banks) ≡ map (λ bank. bank_member (λ path. fold_of bank (items bank ++ path)) (bank_name bank) paths) banks
members items paths [] = refl
members items paths (bank ∷ banks) =
    ap (λ (values : List Data). (bank_name bank, Some (array (items_of values))) ∷ map (shown_member paths) (map (λ bank. fold_pcr (items bank) bank) banks)) (folded items bank paths)
    ∙ ap (λ (more : List MaybeMember). bank_member (λ path. fold_of bank (items bank ++ path)) (bank_name bank) paths ∷ more) (members items paths banks)

-- what registers come to after the words of a path is what the items and the words come to
pub members_of-items : (starts : List Pcr) (items : Bank → List (List ℕ)) (banks : List Bank) → map pcr_value starts ≡ map (λ bank. fold_pcr (items bank) bank) banks
    → (paths : List (List (List ℕ))) → registers_data starts paths ≡ values_data (λ bank path. fold_of bank (items bank ++ path)) banks paths
members_of-items starts items banks are paths = ap object_of (shown paths starts ∙ ap (map (shown_member paths)) are ∙ members items paths banks)
