-- The words of phase paths.
use Rattle.std.specs.Prelude.{◌≢◌, ℕ, ◌==◌, Bool, not, List, [], ◌∷◌, length, filter, codes}
use Rattle.std.specs.List.{AllPairs, join_with_byte, slice_split}

-- the byte `:`
abbrev pub colon : ℕ
colon = 58

-- whether a word is kept: it isn't empty
abbrev pub is_phase_word : List ℕ → Bool
is_phase_word word = not (length word == 0)

-- the words of a text: what stands between its colons and isn't empty (systemd-measure(1), --phase=)
abbrev pub phase_words : List ℕ → List (List ℕ)
phase_words text = filter is_phase_word (slice_split (λ byte. byte == colon) text)

-- the printed path: its words joined by colons, and a colon for the path without words
abbrev pub path_text : List (List ℕ) → List ℕ
path_text [] = codes ":"
path_text (first ∷ rest) = join_with_byte colon (first ∷ rest)

-- the paths that are predicted for where none is named (systemd-measure(1), --phase=)
abbrev pub default_phase_paths : List (List (List ℕ))
default_phase_paths =
    (codes "enter-initrd" ∷ [])
    ∷ (codes "enter-initrd" ∷ codes "leave-initrd" ∷ [])
    ∷ (codes "enter-initrd" ∷ codes "leave-initrd" ∷ codes "sysinit" ∷ [])
    ∷ (codes "enter-initrd" ∷ codes "leave-initrd" ∷ codes "sysinit" ∷ codes "ready" ∷ [])
    ∷ []

-- no two of the paths have the same words
abbrev pub HasDistinctPaths : List (List (List ℕ)) → Type 0
HasDistinctPaths paths = AllPairs (λ one other. one ≢ other) paths
