-- The entries of SBAT metadata, as its first line is cut off, and as they are written.
use Rattle.std.proofs.Common.{◌≡◌, ℕ, ◌<◌, ◌≤◌, inl, inr, Bool, cond, List, [], ◌∷◌, ◌++◌, length, nat_eq, codes, refl, sym, ◌∙◌, ap, subst, arith, append_assoc, length-append, ◌==◌}
use Rattle.std.specs.List.{slice_split, before_first, after_first, starts_with, position_or_len}
use Rattle.std.proofs.lemmas.Grind.{common_steps, flat_map-append}
use Rattle.std.proofs.lemmas.List.Sums.{fails_before_first}
use Rattle.std.proofs.lemmas.List.Splits.{slice_split_first, slice_split_none}
use Rattle.uki_parts.proofs.Cases.{lt_or_le}
use Rattle.uki_parts.specs.Sbat.{is_sbat_newline, entries_among, sbat_entries, kept_lines, lines_text, merged_sbat, with_first_line, sbat_text}

-- the entries by the first line and what is behind it
abbrev pub entries_cut : List ℕ → List ℕ → List (List ℕ)
entries_cut first rest = cond (starts_with nat_eq first (codes "sbat,")) (kept_lines rest) []

abbrev first_newline : List ℕ → ℕ
first_newline text = position_or_len is_sbat_newline text

no_newline : (text : List ℕ) → length text ≤ first_newline text → slice_split is_sbat_newline text ≡ text ∷ []
no_newline text none = slice_split_none is_sbat_newline text (λ k d lt. fails_before_first is_sbat_newline text k d (omega arith))

cut_none : (text : List ℕ) → length text ≤ first_newline text →
    entries_among (slice_split is_sbat_newline text) ≡ entries_cut (before_first is_sbat_newline text) (after_first is_sbat_newline text)
cut_none text none =
    let whole : before_first is_sbat_newline text ≡ text = grind (arith, common_steps) in
    let empty : after_first is_sbat_newline text ≡ [] = grind (arith, common_steps) in
    ap entries_among (no_newline text none)
    ∙ ap (λ rest. entries_cut text rest) (sym empty)
    ∙ ap (λ first. entries_cut first (after_first is_sbat_newline text)) (sym whole)

pub entries_among-cut : (text : List ℕ) →
    entries_among (slice_split is_sbat_newline text) ≡ entries_cut (before_first is_sbat_newline text) (after_first is_sbat_newline text)
entries_among-cut text =
    elim (lt_or_le (first_newline text) (length text)) [
      | inl below ↦ ap entries_among (slice_split_first is_sbat_newline text 0 below)
      | inr none ↦ cut_none text none
    ]

pub lines_text-append : (xs ys zs : List (List ℕ)) → (lines_text xs ++ lines_text ys) ++ lines_text zs ≡ lines_text (xs ++ (ys ++ zs))
lines_text-append xs ys zs =
    append_assoc (lines_text xs) (lines_text ys) (lines_text zs)
    ∙ ap (λ l. lines_text xs ++ l) (sym (flat_map-append (λ line. line ++ 10 ∷ []) ys zs))
    ∙ sym (flat_map-append (λ line. line ++ 10 ∷ []) xs (ys ++ zs))

lines_text-long : (line : List ℕ) (more : List (List ℕ)) → 0 < length (lines_text (line ∷ more))
lines_text-long line more = omega (arith, length-append (line ++ 10 ∷ []) (lines_text more), length-append line (10 ∷ []))

pub sbat_text-none : (lines : List (List ℕ)) → length (lines_text lines) ≡ 0 → lines_text lines ≡ sbat_text lines
sbat_text-none [] h = refl
sbat_text-none (line ∷ more) h = let long = lines_text-long line more in absurd (omega (arith, long, h))

pub sbat_text-some : (lines : List (List ℕ)) → 0 < length (lines_text lines) → with_first_line (lines_text lines) ≡ sbat_text lines
sbat_text-some [] h = absurd (omega (arith, h))
sbat_text-some (line ∷ more) h = refl

-- the entries of a section by what was cut off it
pub sbat_entries-cut : (section text first rest : List ℕ) (test : Bool) → text ≡ before_first (λ byte. byte == 0) section →
    first ≡ before_first is_sbat_newline text → rest ≡ after_first is_sbat_newline text →
    test ≡ starts_with nat_eq first (codes "sbat,") → cond test (kept_lines rest) [] ≡ sbat_entries section
sbat_entries-cut section text first rest test text_is first_is rest_is test_is =
    ap (λ b. cond b (kept_lines rest) []) test_is
    ∙ ap (λ r. entries_cut first r) rest_is
    ∙ ap (λ f. entries_cut f (after_first is_sbat_newline text)) first_is
    ∙ sym (entries_among-cut text)
    ∙ ap (λ t. entries_among (slice_split is_sbat_newline t)) text_is

-- all entries, in the order of their sections
abbrev pub all_entries : List ℕ → List ℕ → List ℕ → List (List ℕ)
all_entries stub kernel given = sbat_entries stub ++ (sbat_entries kernel ++ sbat_entries given)

pub all_lines : (stub kernel given none one two three : List ℕ) → none ≡ [] →
    one ≡ none ++ lines_text (sbat_entries stub) → two ≡ one ++ lines_text (sbat_entries kernel) →
    three ≡ two ++ lines_text (sbat_entries given) → three ≡ lines_text (all_entries stub kernel given)
all_lines stub kernel given none one two three none_is one_is two_is three_is =
    three_is
    ∙ ap (λ l. l ++ lines_text (sbat_entries given))
    (two_is ∙ ap (λ l. l ++ lines_text (sbat_entries kernel)) (one_is ∙ ap (λ l. l ++ lines_text (sbat_entries stub)) none_is))
    ∙ lines_text-append (sbat_entries stub) (sbat_entries kernel) (sbat_entries given)

pub merged_none : (stub kernel given lines : List ℕ) → lines ≡ lines_text (all_entries stub kernel given) → length lines ≡ 0 →
    lines ≡ merged_sbat stub kernel given
merged_none stub kernel given lines is empty =
    is ∙ sbat_text-none (all_entries stub kernel given) (sym (ap length is) ∙ empty)

pub merged_some : (stub kernel given lines text : List ℕ) → lines ≡ lines_text (all_entries stub kernel given) → 0 < length lines →
    text ≡ with_first_line lines → text ≡ merged_sbat stub kernel given
merged_some stub kernel given lines text is filled text_is =
    text_is ∙ ap with_first_line is ∙ sbat_text-some (all_entries stub kernel given) (subst (λ l. 0 < length l) is filled)
