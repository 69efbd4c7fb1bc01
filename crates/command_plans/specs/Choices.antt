-- The banks and the phase paths that a command's words choose (systemd-measure(1), --bank= and --phase=).
use Rattle.std.specs.Prelude.{ℕ, Bool, not, List, [], ◌∷◌, filter, map, bytes_eq}
use Rattle.std.specs.List.{filter_map}
use Rattle.std.specs.Cmp.Lexicographic.{pointwise}
use Rattle.pcr_values.specs.declared.bank.Bank.{Bank}
use Rattle.pcr_values.specs.Banks.{all_banks, bank_name, bank_named}
use Rattle.pcr_values.specs.Phases.{phase_words, default_phase_paths}

-- the list without repetitions: the first of those that are the same keeps its place
unfoldable pub without_repeats : {X : Type 0} → (X → X → Bool) → List X → List X
without_repeats same [] = []
without_repeats same (x ∷ xs) = x ∷ filter (λ y. not (same y x)) (without_repeats same xs)

-- whether two banks have one name
abbrev pub same_bank : Bank → Bank → Bool
same_bank one other = bytes_eq (bank_name one) (bank_name other)

-- the banks of these names, each once; all where no name is given
abbrev pub banks_of : List (List ℕ) → List Bank
banks_of [] = all_banks
banks_of (first ∷ more) = without_repeats same_bank (filter_map bank_named (first ∷ more))

-- the phase paths of these texts, each once by its words; the default ones where no text is given
abbrev pub paths_of : List (List ℕ) → List (List (List ℕ))
paths_of [] = default_phase_paths
paths_of (first ∷ more) = without_repeats (pointwise bytes_eq) (map phase_words (first ∷ more))
