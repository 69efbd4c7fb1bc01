-- Paths that differ, and registers of banks that differ.
use Rattle.std.proofs.Common.{◌≡◌, ◌≢◌, ℕ, List, [], ◌∷◌, map, length, suc, refl, sym, ap, ◌∙◌, subst, arith, AllPairs}
use Rattle.std.proofs.lemmas.List.Elements.{All-cons, All-nil}
use Rattle.std.proofs.lemmas.List.Kept.{AllPairs-cons}
use Rattle.std.proofs.Math.ListN.{get_or-map}
use Rattle.pcr_values.specs.declared.bank.Bank.{Bank}
use Rattle.pcr_values.specs.declared.pcr.Pcr.{Pcr}
use Rattle.pcr_values.specs.Prelude.{pcr_bank, HasDistinctBanks, HasDistinctPaths, default_phase_paths}

AllPairs-nil : {A : Type 0} (R : A → A → Type 0) → AllPairs R []
AllPairs-nil R i j d before inside = absurd (omega arith)

pub AllPairs-four : {A : Type 0} (R : A → A → Type 0) (a b c d : A) → R a b → R a c → R a d → R b c → R b d → R c d → AllPairs R (a ∷ b ∷ c ∷ d ∷ [])
AllPairs-four R a b c d ab ac ad bc bd cd =
    AllPairs-cons R a (b ∷ c ∷ d ∷ []) (All-cons (R a) b (c ∷ d ∷ []) ab (All-cons (R a) c (d ∷ []) ac (All-cons (R a) d [] ad (All-nil (R a)))))
    (AllPairs-cons R b (c ∷ d ∷ []) (All-cons (R b) c (d ∷ []) bc (All-cons (R b) d [] bd (All-nil (R b))))
    (AllPairs-cons R c (d ∷ []) (All-cons (R c) d [] cd (All-nil (R c)))
    (AllPairs-cons R d [] (All-nil (R d)) (AllPairs-nil R))))

-- four lists, each with one element more than the one before it
IsGrowing-distinct : (a b c d : List ℕ) → HasDistinctPaths ((a ∷ []) ∷ (a ∷ b ∷ []) ∷ (a ∷ b ∷ c ∷ []) ∷ (a ∷ b ∷ c ∷ d ∷ []) ∷ [])
IsGrowing-distinct a b c d =
    AllPairs-four (λ one other. one ≢ other) (a ∷ []) (a ∷ b ∷ []) (a ∷ b ∷ c ∷ []) (a ∷ b ∷ c ∷ d ∷ [])
    (λ same. cc) (λ same. cc) (λ same. cc) (λ same. cc) (λ same. cc) (λ same. cc)

pub default_phase_paths-distinct : HasDistinctPaths default_phase_paths
default_phase_paths-distinct = IsGrowing-distinct _ _ _ _

length_map : (registers : List Pcr) → length (map pcr_bank registers) ≡ length registers
length_map [] = refl
length_map (x ∷ xs) = ap suc (length_map xs)

distinct_map : (registers : List Pcr) → AllPairs (λ one other. one ≢ other) (map pcr_bank registers) → HasDistinctBanks registers
distinct_map registers apart i j d before inside same =
    apart i j (pcr_bank d) before (omega (arith, length_map registers, inside)) (get_or-map pcr_bank registers i d ∙ same ∙ sym (get_or-map pcr_bank registers j d))

-- registers of banks that differ
pub distinct_registers : (registers : List Pcr) (banks : List Bank) → map pcr_bank registers ≡ banks → AllPairs (λ one other. one ≢ other) banks → HasDistinctBanks registers
distinct_registers registers banks has apart = distinct_map registers (subst (AllPairs (λ one other. one ≢ other)) (sym has) apart)
