-- A printed path reads back as the path that was printed.
use Rattle.std.proofs.Common.{◌≡◌, ℕ, Bool, true, false, cond, List, [], ◌∷◌, filter, refl, ap, ◌∙◌, ◌==◌}
use Rattle.std.specs.List.{All, AllByRecursion, join_with_byte, onto_first, slice_split}
use Rattle.std.proofs.lemmas.List.Elements.{All-cons, All-nil}
use Rattle.std.proofs.lemmas.List.Splits.{slice_split_at, slice_split_none}
use Rattle.pcr_values.specs.Prelude.{colon, is_phase_word, path_text, phase_words}

-- whether a byte is a colon
abbrev pub is_colon : ℕ → Bool
is_colon byte = byte == colon

-- no byte of the word is a colon
abbrev pub IsClear : List ℕ → Type 0
IsClear word = All (λ byte. is_colon byte ≡ false) word

-- a word of a path: it has no colon and isn't empty
abbrev pub IsWord : List ℕ → Type 0
IsWord word = IsClear word × (is_phase_word word ≡ true)

AllClear-step : (byte : ℕ) (parts : List (List ℕ)) (colon : Bool) → is_colon byte ≡ colon → AllByRecursion IsClear parts
    → AllByRecursion IsClear (cond colon ([] ∷ parts) (onto_first byte parts))
AllClear-step byte parts true is clear = (All-nil (λ b. is_colon b ≡ false), clear)
AllClear-step byte [] false is clear = (All-cons (λ b. is_colon b ≡ false) byte [] is (All-nil (λ b. is_colon b ≡ false)), tt)
AllClear-step byte (part ∷ parts) false is clear = (All-cons (λ b. is_colon b ≡ false) byte part is clear.0, clear.1)

AllClear-slice_split : (text : List ℕ) → AllByRecursion IsClear (slice_split is_colon text)
AllClear-slice_split [] = (All-nil (λ b. is_colon b ≡ false), tt)
AllClear-slice_split (byte ∷ text) = AllClear-step byte (slice_split is_colon text) (is_colon byte) refl (AllClear-slice_split text)

AllWords-step : (part : List ℕ) (words : List (List ℕ)) (kept : Bool) → is_phase_word part ≡ kept → IsClear part → AllByRecursion IsWord words
    → AllByRecursion IsWord (cond kept (part ∷ words) words)
AllWords-step part words true is clear all = ((clear, is), all)
AllWords-step part words false is clear all = all

AllWords-filter : (parts : List (List ℕ)) → AllByRecursion IsClear parts → AllByRecursion IsWord (filter is_phase_word parts)
AllWords-filter [] clear = tt
AllWords-filter (part ∷ parts) clear = AllWords-step part (filter is_phase_word parts) (is_phase_word part) refl clear.0 (AllWords-filter parts clear.1)

filter-kept : (word : List ℕ) (parts : List (List ℕ)) → is_phase_word word ≡ true → filter is_phase_word (word ∷ parts) ≡ word ∷ filter is_phase_word parts
filter-kept word parts is = ap (λ kept. cond kept (word ∷ filter is_phase_word parts) (filter is_phase_word parts)) is

phase_words-join_with_byte : (first : List ℕ) (rest : List (List ℕ)) → IsWord first → AllByRecursion IsWord rest
    → phase_words (join_with_byte colon (first ∷ rest)) ≡ first ∷ rest
phase_words-join_with_byte first [] word all =
    ap (filter is_phase_word) (slice_split_none is_colon first word.0) ∙ filter-kept first [] word.1
phase_words-join_with_byte first (next ∷ rest) word all =
    ap (filter is_phase_word) (slice_split_at is_colon first colon (join_with_byte colon (next ∷ rest)) word.0 refl)
    ∙ filter-kept first (slice_split is_colon (join_with_byte colon (next ∷ rest))) word.1
    ∙ ap (λ words. first ∷ words) (phase_words-join_with_byte next rest all.0 all.1)

phase_words-path_text-words : (words : List (List ℕ)) → AllByRecursion IsWord words → phase_words (path_text words) ≡ words
phase_words-path_text-words [] all = refl
phase_words-path_text-words (first ∷ rest) all = phase_words-join_with_byte first rest all.0 all.1

pub phase_words-path_text : (text : List ℕ) → phase_words (path_text (phase_words text)) ≡ phase_words text
phase_words-path_text text = phase_words-path_text-words (phase_words text) (AllWords-filter (slice_split is_colon text) (AllClear-slice_split text))
