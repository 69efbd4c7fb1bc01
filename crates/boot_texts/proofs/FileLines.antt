-- The lines of a file byte for byte, and what they say.
use Rattle.std.proofs.Common.{◌≡◌, ◌≢◌, ℕ, suc, Bool, true, false, not, eqb, List, [], ◌∷◌, ◌++◌, None, length, filter, subst, sym, ap, ◌∙◌, refl, cond, arith, append-nil, inl, inr}
use Rattle.std.specs.List.{cons_option, filter_map, list_all, onto_first, slice_split}
use Rattle.std.proofs.lemmas.Bool.{and_from, and_parts, eqb-true, ne_eqb, not-true}
use Rattle.boot_texts.specs.TextLines.{counted_lines, is_counted, is_newline, lines_of, trim_blanks}
use Rattle.boot_texts.specs.EntryLines.{entry_reading}
use Rattle.boot_texts.specs.FileLines.{IsTextButForNewline, with_newline, raw_lines, file_line_reading, without_empty_end, text_of_lines}
use Rattle.boot_texts.proofs.PatternSearch.{none_of_it}

-- a line has no newline
abbrev pub is_line : List ℕ → Bool
is_line line = list_all (λ b. not (is_newline b)) line

onto_lines : (x : ℕ) → is_newline x ≡ false → (pieces : List (List ℕ)) → list_all is_line pieces ≡ true → list_all is_line (onto_first x pieces) ≡ true
onto_lines x not [] all = rw not refl
onto_lines x not (piece ∷ pieces) all = rw not all

slices_are_lines : (text : List ℕ) → list_all is_line (slice_split is_newline text) ≡ true
slices_are_lines [] = refl
slices_are_lines (x ∷ xs) = by_test (slices_are_lines xs) (is_newline x) refl
  where
    by_test : list_all is_line (slice_split is_newline xs) ≡ true → (b : Bool) → is_newline x ≡ b
        → list_all is_line (cond (is_newline x) ([] ∷ slice_split is_newline xs) (onto_first x (slice_split is_newline xs))) ≡ true
    by_test behind true e = rw e behind
    by_test behind false e = rw e (onto_lines x e (slice_split is_newline xs) behind)

end_lines : (pieces : List (List ℕ)) → list_all is_line pieces ≡ true → list_all is_line (without_empty_end pieces) ≡ true
end_lines [] all = refl
end_lines (piece ∷ []) all = by_test (eqb (length piece) 0) refl
  where
    by_test : (b : Bool) → eqb (length piece) 0 ≡ b → list_all is_line (without_empty_end (piece ∷ [])) ≡ true
    by_test true e = rw e refl
    by_test false e = rw e all
end_lines (piece ∷ next ∷ pieces) all =
    let parts = and_parts (is_line piece) (list_all is_line (next ∷ pieces)) all in
    and_from (is_line piece) (list_all is_line (without_empty_end (next ∷ pieces))) parts.0 (end_lines (next ∷ pieces) parts.1)

pub file_lines_are_lines : (text : List ℕ) → list_all is_line (raw_lines text) ≡ true
file_lines_are_lines text = end_lines (slice_split is_newline text) (slices_are_lines text)

pub all_of_filter : (test keep : List ℕ → Bool) (xs : List (List ℕ)) → list_all test xs ≡ true → list_all test (filter keep xs) ≡ true
all_of_filter test keep [] all = refl
all_of_filter test keep (x ∷ xs) all =
    let parts = and_parts (test x) (list_all test xs) all in
    by_test parts.0 (all_of_filter test keep xs parts.1) (keep x) refl
  where
    by_test : test x ≡ true → list_all test (filter keep xs) ≡ true → (b : Bool) → keep x ≡ b → list_all test (filter keep (x ∷ xs)) ≡ true
    by_test here behind true e = rw e (and_from (test x) (list_all test (filter keep xs)) here behind)
    by_test here behind false e = rw e behind

-- ---- what was written is read again

split_line : (line rest : List ℕ) → is_line line ≡ true → slice_split is_newline (with_newline line ++ rest) ≡ line ∷ slice_split is_newline rest
split_line [] rest is = refl
split_line (x ∷ line) rest is =
    let parts = and_parts (not (is_newline x)) (is_line line) is in
    rw (not-true (is_newline x) parts.0) (ap (onto_first x) (split_line line rest parts.1))

split_written : (lines : List (List ℕ)) → list_all is_line lines ≡ true → slice_split is_newline (text_of_lines lines) ≡ lines ++ [] ∷ []
split_written [] all = refl
split_written (line ∷ lines) all =
    let parts = and_parts (is_line line) (list_all is_line lines) all in
    split_line line (text_of_lines lines) parts.0 ∙ ap (λ (rest : List (List ℕ)). line ∷ rest) (split_written lines parts.1)

end_written : (lines : List (List ℕ)) → without_empty_end (lines ++ [] ∷ []) ≡ lines
end_written [] = refl
end_written (line ∷ []) = refl
end_written (line ∷ next ∷ lines) = ap (λ (rest : List (List ℕ)). line ∷ rest) (end_written (next ∷ lines))

pub file_lines_of_written : (lines : List (List ℕ)) → list_all is_line lines ≡ true → raw_lines (text_of_lines lines) ≡ lines
file_lines_of_written lines all = ap without_empty_end (split_written lines all) ∙ end_written lines

-- ---- the keys and values of a file are those of its lines

counted_readings : (pieces : List (List ℕ)) → filter_map entry_reading (counted_lines pieces) ≡ filter_map file_line_reading pieces
counted_readings [] = refl
counted_readings (piece ∷ pieces) = by_test (counted_readings pieces) (is_counted (trim_blanks piece)) refl
  where
    by_test : filter_map entry_reading (counted_lines pieces) ≡ filter_map file_line_reading pieces → (b : Bool) → is_counted (trim_blanks piece) ≡ b
        → filter_map entry_reading (cond (is_counted (trim_blanks piece)) (trim_blanks piece ∷ counted_lines pieces) (counted_lines pieces))
        ≡ cons_option (cond (is_counted (trim_blanks piece)) (entry_reading (trim_blanks piece)) None) (filter_map file_line_reading pieces)
    by_test behind true e = rw e (ap (cons_option (entry_reading (trim_blanks piece))) behind)
    by_test behind false e = rw e behind

end_readings : (pieces : List (List ℕ)) → filter_map file_line_reading pieces ≡ filter_map file_line_reading (without_empty_end pieces)
end_readings [] = refl
end_readings (piece ∷ []) = by_test (eqb (length piece) 0) refl
  where
    by_test : (b : Bool) → eqb (length piece) 0 ≡ b → filter_map file_line_reading (piece ∷ []) ≡ filter_map file_line_reading (cond (eqb (length piece) 0) [] (piece ∷ []))
    by_test true e =
        let none : piece ≡ [] = none_of_it piece (eqb-true (length piece) 0 e) in
        subst (λ (p : List ℕ). filter_map file_line_reading (p ∷ []) ≡ filter_map file_line_reading (cond (eqb (length p) 0) [] (p ∷ []))) (sym none) refl
    by_test false e = rw e refl
end_readings (piece ∷ next ∷ pieces) = ap (cons_option (file_line_reading piece)) (end_readings (next ∷ pieces))

pub readings_are : (text : List ℕ) → filter_map entry_reading (lines_of text) ≡ filter_map file_line_reading (raw_lines text)
readings_are text = counted_readings (slice_split is_newline text) ∙ end_readings (slice_split is_newline text)

-- ---- the first line

no_pieces_at : (x : ℕ) (pieces : List (List ℕ)) → onto_first x pieces ≡ [] → ⊥
no_pieces_at x [] is = cc
no_pieces_at x (piece ∷ pieces) is = cc

pieces_there : (text : List ℕ) → slice_split is_newline text ≡ [] → ⊥
pieces_there [] is = cc
pieces_there (x ∷ xs) is = by_test (is_newline x) refl
  where
    by_test : (b : Bool) → is_newline x ≡ b → ⊥
    by_test true e = let none : [] ∷ slice_split is_newline xs ≡ [] = rw e at is in cc
    by_test false e = no_pieces_at x (slice_split is_newline xs) (rw e at is)

end_cons : (piece : List ℕ) (pieces : List (List ℕ)) → (pieces ≡ [] → ⊥) → without_empty_end (piece ∷ pieces) ≡ piece ∷ without_empty_end pieces
end_cons piece [] there = absurd (there refl)
end_cons piece (next ∷ pieces) there = refl

-- a line that a newline ends
pub first_line : (text line behind : List ℕ) → slice_split is_newline text ≡ line ∷ slice_split is_newline behind → raw_lines text ≡ line ∷ raw_lines behind
first_line text line behind is = ap without_empty_end is ∙ end_cons line (slice_split is_newline behind) (pieces_there behind)

onto_there : (x : ℕ) (pieces : List (List ℕ)) (piece : List ℕ) → onto_first x pieces ≡ piece ∷ [] → eqb (length piece) 0 ≡ false
onto_there x [] piece is = let same : x ∷ [] ≡ piece = cc in subst (λ (xs : List ℕ). eqb (length xs) 0 ≡ false) same refl
onto_there x (front ∷ pieces) piece is =
    let same : x ∷ front ≡ piece = cc in
    subst (λ (xs : List ℕ). eqb (length xs) 0 ≡ false) same (ne_eqb (suc (length front)) 0 (λ e. absurd (omega (arith, e))))

piece_there : (text piece : List ℕ) → text ≢ [] → slice_split is_newline text ≡ piece ∷ [] → eqb (length piece) 0 ≡ false
piece_there [] piece there is = absurd (there refl)
piece_there (x ∷ xs) piece there is = by_test (is_newline x) refl
  where
    by_test : (b : Bool) → is_newline x ≡ b → eqb (length piece) 0 ≡ false
    by_test true e =
        let none : [] ∷ slice_split is_newline xs ≡ piece ∷ [] = rw e at is in
        let rest : slice_split is_newline xs ≡ [] = cc in
        absurd (pieces_there xs rest)
    by_test false e = onto_there x (slice_split is_newline xs) piece (rw e at is)

-- the last line, without newline
pub last_line : (text line behind : List ℕ) → text ≢ [] → slice_split is_newline text ≡ line ∷ [] → length behind ≡ 0 → raw_lines text ≡ line ∷ raw_lines behind
last_line text line behind there is none =
    let at_end : raw_lines behind ≡ [] = ap raw_lines (none_of_it behind none) in
    let not_empty : eqb (length line) 0 ≡ false = piece_there text line there is in
    let one : without_empty_end (line ∷ []) ≡ line ∷ [] = rw not_empty refl in
    ap without_empty_end is ∙ one ∙ ap (λ (rest : List (List ℕ)). line ∷ rest) (sym at_end)

-- ---- the lines are the whole file

whole_more : (x : ℕ) (lines text : List ℕ) → IsTextButForNewline lines text → IsTextButForNewline (x ∷ lines) (x ∷ text)
whole_more x lines text (inl is) = inl (ap (λ (t : List ℕ). x ∷ t) is)
whole_more x lines text (inr is) = inr (ap (λ (t : List ℕ). x ∷ t) is)

-- the only piece of a text is the text
one_piece : (text piece : List ℕ) → slice_split is_newline text ≡ piece ∷ [] → text ≡ piece
one_piece [] piece is = cc
one_piece (x ∷ xs) piece is = by_test (λ front more. one_piece xs front more) (is_newline x) refl
  where
    onto : (pieces : List (List ℕ)) → ((front : List ℕ) → pieces ≡ front ∷ [] → xs ≡ front) → (pieces ≡ [] → ⊥) → onto_first x pieces ≡ piece ∷ [] → x ∷ xs ≡ piece
    onto [] same there e = absurd (there refl)
    onto (front ∷ []) same there e = let whole : xs ≡ front = same front refl in let is : x ∷ front ≡ piece = cc in ap (λ (t : List ℕ). x ∷ t) whole ∙ is
    onto (front ∷ next ∷ pieces) same there e = cc

    by_test : ((front : List ℕ) → slice_split is_newline xs ≡ front ∷ [] → xs ≡ front) → (b : Bool) → is_newline x ≡ b → x ∷ xs ≡ piece
    by_test same true e =
        let none : [] ∷ slice_split is_newline xs ≡ piece ∷ [] = rw e at is in
        let rest : slice_split is_newline xs ≡ [] = cc in
        absurd (pieces_there xs rest)
    by_test same false e = onto (slice_split is_newline xs) same (pieces_there xs) (rw e at is)

-- a byte in front of the first line
whole_onto : (x : ℕ) (xs : List ℕ) (pieces : List (List ℕ)) → slice_split is_newline xs ≡ pieces → IsTextButForNewline (text_of_lines (without_empty_end pieces)) xs
    → IsTextButForNewline (text_of_lines (without_empty_end (onto_first x pieces))) (x ∷ xs)
whole_onto x xs [] is whole = absurd (pieces_there xs is)
whole_onto x xs (front ∷ []) is whole =
    let same : xs ≡ front = one_piece xs front is in
    let there : eqb (length (x ∷ front)) 0 ≡ false = ne_eqb (suc (length front)) 0 (λ e. absurd (omega (arith, e))) in
    inr (rw there (ap (λ (t : List ℕ). x ∷ t) (append-nil (front ++ 10 ∷ []) ∙ ap (λ (t : List ℕ). t ++ 10 ∷ []) (sym same))))
whole_onto x xs (front ∷ next ∷ pieces) is whole = whole_more x (text_of_lines (without_empty_end (front ∷ next ∷ pieces))) xs whole

pub whole_file : (text : List ℕ) → IsTextButForNewline (text_of_lines (raw_lines text)) text
whole_file [] = inl refl
whole_file (x ∷ xs) = by_test (whole_file xs) (is_newline x) refl
  where
    by_test : IsTextButForNewline (text_of_lines (raw_lines xs)) xs → (b : Bool) → is_newline x ≡ b
        → IsTextButForNewline (text_of_lines (without_empty_end (cond (is_newline x) ([] ∷ slice_split is_newline xs) (onto_first x (slice_split is_newline xs))))) (x ∷ xs)
    by_test whole true e =
        let newline : x ≡ 10 = eqb-true x 10 e in
        rw e (subst (λ (lines : List (List ℕ)). IsTextButForNewline (text_of_lines lines) (x ∷ xs)) (sym (end_cons [] (slice_split is_newline xs) (pieces_there xs)))
        (subst (λ (b : ℕ). IsTextButForNewline (10 ∷ text_of_lines (raw_lines xs)) (b ∷ xs)) (sym newline) (whole_more 10 (text_of_lines (raw_lines xs)) xs whole)))
    by_test whole false e = rw e (whole_onto x xs (slice_split is_newline xs) refl whole)
