-- How many bytes the pieces of a text have.
use Rattle.std.proofs.Common.{◌≡◌, ◌≤◌, ◌<◌, ◌+◌, ℕ, List, [], ◌∷◌, ◌++◌, length, suc, zero, refl, true, false, arith, cond, length-append, Bool, not, codes, filter, replicate, sum_by, nat_eq, if◌then◌else◌, ◌==◌, length-take}
use Rattle.std.specs.List.{before_first, join_with_byte, onto_first, position_or_len, slice_split, starts_with}
use Rattle.std.proofs.lemmas.List.Sums.{sum_by-append, sum_by-cons}
use Rattle.uki_parts.specs.Cmdlines.{clean_cmdline, is_whitespace, words_of}
use Rattle.uki_parts.specs.Sbat.{entries_among, is_sbat_newline, lines_text, merged_sbat, sbat_entries, sbat_lines, sbat_text}
use Rattle.uki_parts.specs.Texts.{is_nonempty_text}

-- a piece, with the byte that ends it
abbrev ended_length : List ℕ → ℕ
ended_length piece = length piece + 1

onto_ended : (x : ℕ) (pieces : List (List ℕ)) → 0 < sum_by ended_length pieces → sum_by ended_length (onto_first x pieces) ≡ sum_by ended_length pieces + 1
onto_ended x [] some = absurd (omega (arith, some))
onto_ended x (piece ∷ pieces) some = omega (arith, sum_by-cons ended_length (x ∷ piece) pieces, sum_by-cons ended_length piece pieces)

split_by : (b : Bool) (x : ℕ) (n : ℕ) (pieces : List (List ℕ)) → sum_by ended_length pieces ≡ n + 1 → sum_by ended_length (cond b ([] ∷ pieces) (onto_first x pieces)) ≡ n + 2
split_by true x n pieces is = omega (arith, is, sum_by-cons ended_length [] pieces)
split_by false x n pieces is = omega (arith, is, onto_ended x pieces (omega (arith, is)))

-- what parts a text has are its bytes, and one more
split_ended : (p : ℕ → Bool) (text : List ℕ) → sum_by ended_length (slice_split p text) ≡ length text + 1
split_ended p [] = refl
split_ended p (x ∷ text) = omega (arith, split_by (p x) x (length text) (slice_split p text) (split_ended p text))

filter_by : (b : Bool) (piece : List ℕ) (kept pieces : List (List ℕ)) → sum_by ended_length kept ≤ sum_by ended_length pieces
    → sum_by ended_length (cond b (piece ∷ kept) kept) ≤ sum_by ended_length (piece ∷ pieces)
filter_by true piece kept pieces le = omega (arith, le, sum_by-cons ended_length piece kept, sum_by-cons ended_length piece pieces)
filter_by false piece kept pieces le = omega (arith, le, sum_by-cons ended_length piece pieces)

filter_ended : (p : List ℕ → Bool) (pieces : List (List ℕ)) → sum_by ended_length (filter p pieces) ≤ sum_by ended_length pieces
filter_ended p [] = omega arith
filter_ended p (piece ∷ pieces) = filter_by (p piece) piece (filter p pieces) pieces (filter_ended p pieces)

join_ended : (c : ℕ) (pieces : List (List ℕ)) → length (join_with_byte c pieces) ≤ sum_by ended_length pieces
join_ended c [] = omega arith
join_ended c (piece ∷ []) = omega (arith, sum_by-cons ended_length piece [])
join_ended c (piece ∷ next ∷ pieces) =
    omega (arith, sum_by-cons ended_length piece (next ∷ pieces), length-append piece (c ∷ join_with_byte c (next ∷ pieces)), join_ended c (next ∷ pieces))

-- a command line that is cleaned has at most one byte more
pub cleaned_short : (text : List ℕ) → length (clean_cmdline text) ≤ length text + 1
cleaned_short text =
    omega (arith, join_ended 32 (words_of text), filter_ended is_nonempty_text (slice_split is_whitespace text), split_ended is_whitespace text)

lines_ended : (lines : List (List ℕ)) → length (lines_text lines) ≡ sum_by ended_length lines
lines_ended [] = refl
lines_ended (line ∷ lines) =
    omega (arith, sum_by-cons ended_length line lines, length-append (line ++ 10 ∷ []) (lines_text lines), length-append line (10 ∷ []), lines_ended lines)

entries_by : (b : Bool) (rest : List (List ℕ)) → sum_by ended_length (if b then filter is_nonempty_text rest else []) ≤ sum_by ended_length rest
entries_by true rest = filter_ended is_nonempty_text rest
entries_by false rest = omega arith

entries_ended : (lines : List (List ℕ)) → sum_by ended_length (entries_among lines) ≤ sum_by ended_length lines
entries_ended [] = omega arith
entries_ended (first ∷ rest) = omega (arith, sum_by-cons ended_length first rest, entries_by (starts_with nat_eq first (codes "sbat,")) rest)

-- the entries of a section stand before its first NUL
pub entries_long : (section : List ℕ) → sum_by ended_length (sbat_entries section) ≤ length (before_first (λ byte. byte == 0) section) + 1
entries_long section = omega (arith, entries_ended (sbat_lines section), split_ended is_sbat_newline (before_first (λ byte. byte == 0) section))

-- before the zeros behind some bytes
zeros_at : (count : ℕ) → position_or_len (λ byte. byte == 0) (replicate count 0) ≡ 0
zeros_at zero = refl
zeros_at (suc count) = refl

place_by : (b : Bool) (n m : ℕ) → n ≤ m → cond (not b) (1 + n) 0 ≤ m + 1
place_by true n m le = omega arith
place_by false n m le = omega (arith, le)

place_within : (bytes : List ℕ) (count : ℕ) → position_or_len (λ byte. byte == 0) (bytes ++ replicate count 0) ≤ length bytes
place_within [] count = omega (arith, zeros_at count)
place_within (byte ∷ bytes) count =
    omega (arith, place_by (byte == 0) (position_or_len (λ byte. byte == 0) (bytes ++ replicate count 0)) (length bytes) (place_within bytes count))

pub entries_before : (bytes : List ℕ) (count : ℕ) → sum_by ended_length (sbat_entries (bytes ++ replicate count 0)) ≤ length bytes + 1
entries_before bytes count =
    let section = bytes ++ replicate count 0 in
    omega (
      arith,
      entries_long section,
      length-take (position_or_len (λ byte. byte == 0) section) section,
      place_within bytes count,
    )

text_long : (entries : List (List ℕ)) → length (sbat_text entries) ≤ sum_by ended_length entries + 100
text_long [] = omega arith
text_long (entry ∷ entries) =
    let head = codes "sbat,1,SBAT Version,sbat,1,https://github.com/rhboot/shim/blob/main/SBAT.md\n" in
    let short : length head ≡ 76 = refl in
    omega (
      arith,
      short,
      lines_ended (entry ∷ entries),
      length-append head (lines_text (entry ∷ entries) ++ 0 ∷ []),
      length-append (lines_text (entry ∷ entries)) (0 ∷ []),
    )

-- an SBAT text is as long as its entries
pub merged_long : (stub kernel given : List ℕ)
    → length (merged_sbat stub kernel given) ≤ sum_by ended_length (sbat_entries stub) + (sum_by ended_length (sbat_entries kernel) + sum_by ended_length (sbat_entries given)) + 100
merged_long stub kernel given =
    omega (
      arith,
      text_long (sbat_entries stub ++ (sbat_entries kernel ++ sbat_entries given)),
      sum_by-append ended_length (sbat_entries stub) (sbat_entries kernel ++ sbat_entries given),
      sum_by-append ended_length (sbat_entries kernel) (sbat_entries given),
    )
