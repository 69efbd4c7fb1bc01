-- The words of phases that are given in UTF-8 are UTF-8.
use Rattle.std.proofs.Common.{◌≡◌, ℕ, zero, suc, ◌+◌, ◌<◌, ◌≤◌, Bool, true, ◌==◌, not, List, [], ◌∷◌, length, get_or, map, refl, sym, subst, arith, inl, inr, ltb-true, nat_lt, All, IsUtf8, bytes_eq, length-drop}
use Rattle.std.specs.List.{after_first, before_first, filter, list_all, position_or_len, slice_split}
use Rattle.std.specs.Cmp.Lexicographic.{pointwise}
use Rattle.std.proofs.lemmas.Bool.{cases_lt, eqb-true}
use Rattle.std.proofs.lemmas.List.Elements.{All-cons, All-filter, All-head, All-map, All-nil, All-tail}
use Rattle.std.proofs.lemmas.List.Splits.{slice_split_first, slice_split_none}
use Rattle.std.proofs.lemmas.List.Sums.{AllPass-from_list_all, fails_before_first, passes_at_first}
use Rattle.std.proofs.lemmas.Str.{IsCharBoundary-after_ascii, IsCharBoundary-before_ascii, IsUtf8-drop, IsUtf8-from_ascii, IsUtf8-take}
use Rattle.std.proofs.lemmas.Str.Ascii.{IsAscii-from_all}
use Rattle.pcr_values.specs.Prelude.{colon, default_phase_paths, is_phase_word, phase_words}
use Rattle.command_plans.specs.Prelude.{paths_of, without_repeats}

abbrev is_colon : ℕ → Bool
is_colon byte = byte == colon

-- a text may be cut before and behind its first colon
front_utf8 : (text : List ℕ) → IsUtf8 text → position_or_len is_colon text < length text → IsUtf8 (before_first is_colon text) × IsUtf8 (after_first is_colon text)
front_utf8 text utf8 inside =
    let place = position_or_len is_colon text in
    let is : get_or text place 0 ≡ 58 = eqb-true (get_or text place 0) 58 (passes_at_first is_colon text 0 inside) in
    let small : get_or text place 0 < 128 = omega arith in (
      IsUtf8-take text place utf8 (IsCharBoundary-before_ascii text place inside small),
      IsUtf8-drop text (place + 1) utf8 (IsCharBoundary-after_ascii text place utf8 inside small),
    )

-- the part before the first colon, if there is one, and the parts behind it
next_utf8 : (text : List ℕ) → IsUtf8 text → (position_or_len is_colon text < length text → All IsUtf8 (slice_split is_colon (after_first is_colon text)))
    → All IsUtf8 (slice_split is_colon text)
next_utf8 text utf8 later = elim (cases_lt (position_or_len is_colon text) (length text)) [
  | inl inside ↦
      subst (All IsUtf8) (sym (slice_split_first is_colon text 0 inside))
      (All-cons IsUtf8 (before_first is_colon text) (slice_split is_colon (after_first is_colon text)) (front_utf8 text utf8 inside).0 (later inside))
  | inr none ↦
      subst (All IsUtf8) (sym (slice_split_none is_colon text (λ k d within. fails_before_first is_colon text k d (omega (arith, none, within)))))
      (All-cons IsUtf8 text [] utf8 (All-nil IsUtf8))
]

-- what stands between the colons of a text of at most n bytes
parts_utf8 : (n : ℕ) (text : List ℕ) → length text ≤ n → IsUtf8 text → All IsUtf8 (slice_split is_colon text)
parts_utf8 zero text short utf8 = next_utf8 text utf8 (λ inside. absurd (omega (arith, inside, short)))
parts_utf8 (suc n) text short utf8 =
    next_utf8 text utf8 (λ inside. parts_utf8 n (after_first is_colon text) (omega (arith, inside, short, length-drop (position_or_len is_colon text + 1) text)) (front_utf8 text utf8 inside).1)

words_utf8 : (text : List ℕ) → IsUtf8 text → All IsUtf8 (phase_words text)
words_utf8 text utf8 = All-filter is_phase_word IsUtf8 (slice_split is_colon text) (parts_utf8 (length text) text (omega arith) utf8)

-- what holds of each holds of those that are left
without_all : {X : Type 0} (P : X → Type 0) (same : X → X → Bool) (xs : List X) → All P xs → All P (without_repeats same xs)
unfolding without_repeats
without_all P same [] all = All-nil P
without_all P same (x ∷ xs) all =
    All-cons P x (filter (λ y. not (same y x)) (without_repeats same xs)) (All-head P x xs all)
    (All-filter (λ y. not (same y x)) P (without_repeats same xs) (without_all P same xs (All-tail P x xs all)))

abbrev is_ascii : ℕ → Bool
is_ascii byte = nat_lt byte 128

ascii_utf8 : (text : List ℕ) → list_all is_ascii text ≡ true → IsUtf8 text
ascii_utf8 text is = IsUtf8-from_ascii text (IsAscii-from_all text (λ k d within. ltb-true (get_or text k d) 128 (AllPass-from_list_all is_ascii text is k d within)))

ascii_words : (words : List (List ℕ)) → list_all (list_all is_ascii) words ≡ true → All IsUtf8 words
ascii_words words is = λ k d within. ascii_utf8 (get_or words k d) (AllPass-from_list_all (list_all is_ascii) words is k d within)

default_utf8 : All (All IsUtf8) default_phase_paths
default_utf8 = λ k d within. ascii_words (get_or default_phase_paths k d) (AllPass-from_list_all (list_all (list_all is_ascii)) default_phase_paths refl k d within)

pub paths_utf8 : (texts : List (List ℕ)) → All IsUtf8 texts → All (All IsUtf8) (paths_of texts)
paths_utf8 [] all = default_utf8
paths_utf8 (first ∷ more) all =
    without_all (All IsUtf8) (pointwise bytes_eq) (map phase_words (first ∷ more))
    (All-map (All IsUtf8) phase_words (first ∷ more) (λ k d within. words_utf8 (get_or (first ∷ more) k d) (all k d within)))
