-- The entries of a `.sbat` whose zeros aren't made.
use Rattle.std.proofs.Common.{◌≡◌, ◌≤◌, ◌+◌, ℕ, zero, suc, Bool, cond, not, List, ◌++◌, length, take, replicate, Result, Ok, Err, nat_eq, refl, sym, ap, ◌∙◌, arith, ◌==◌}
use Rattle.std.specs.List.{before_first, position_or_len, slice_split}
use Rattle.std.proofs.lemmas.Bool.Decides.{nat_tests}
use Rattle.std.proofs.lemmas.List.{take-append-le}
use Rattle.std.proofs.lemmas.List.Folds.{prefix_len-append}
use Rattle.std.proofs.lemmas.List.Sums.{prefix_len-le-length}
use Rattle.uki_parts.specs.Sbat.{entries_among, is_sbat_newline, sbat_entries}
use Rattle.command_plans.specs.Prelude.{Says}
use Rattle.command_plans.specs.declared.read_error.ReadError.{ReadError}
use Rattle.command_plans.proofs.ReadErrors.{unrefused}

abbrev is_nul : ℕ → Bool
is_nul byte = byte == 0

none_first : (count : ℕ) → position_or_len is_nul (replicate count 0) ≡ 0
none_first zero = refl
none_first (suc count) = refl

same_place : (place long : ℕ) → cond (nat_eq place long) (long + 0) place ≡ place
same_place place long = grind (arith, nat_tests)

place_kept : (raw : List ℕ) (count : ℕ) → position_or_len is_nul (raw ++ replicate count 0) ≡ position_or_len is_nul raw
place_kept raw count =
    prefix_len-append (λ byte. not (is_nul byte)) raw (replicate count 0)
    ∙ ap (λ (n : ℕ). cond (nat_eq (position_or_len is_nul raw) (length raw)) (length raw + n) (position_or_len is_nul raw)) (none_first count)
    ∙ same_place (position_or_len is_nul raw) (length raw)

place_inside : (raw : List ℕ) → position_or_len is_nul raw ≤ length raw
place_inside raw = prefix_len-le-length (λ byte. not (is_nul byte)) raw

cut_kept : (raw : List ℕ) (count : ℕ) → before_first is_nul (raw ++ replicate count 0) ≡ before_first is_nul raw
cut_kept raw count =
    ap (λ (n : ℕ). take n (raw ++ replicate count 0)) (place_kept raw count)
    ∙ take-append-le (position_or_len is_nul raw) raw (replicate count 0) (place_inside raw)

-- zeros behind bytes leave their entries
pub entries_kept : (raw loaded : List ℕ) (count : ℕ) → loaded ≡ raw ++ replicate count 0 → sbat_entries raw ≡ sbat_entries loaded
entries_kept raw loaded count is =
    ap (λ (text : List ℕ). entries_among (slice_split is_sbat_newline text)) (sym (cut_kept raw count) ∙ ap (before_first is_nul) (sym is))

-- what is said of bytes is said of what is made of them
pub says_made : {X : Type 0} (view : X → List ℕ) (made : List ℕ → List (List ℕ)) (result : Result X ReadError) (bytes : List ℕ) (meant : List (List ℕ))
    → made bytes ≡ meant → Says view result (Ok bytes) → Says (λ x. made (view x)) result (Ok meant)
says_made view made (Ok x) bytes meant is said =
    let same : bytes ≡ view x = cc said in
    ap (λ (l : List (List ℕ)). Ok l) (sym is ∙ ap made same)
says_made view made (Err fault) bytes meant is said = unrefused fault bytes (Ok meant) said
