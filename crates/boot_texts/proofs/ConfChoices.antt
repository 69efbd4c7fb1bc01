-- The place that the function finds is that of the default entry.
use Rattle.std.proofs.Common.{◌≡◌, ◌≤◌, ◌<◌, ℕ, Bool, true, false, List, [], ◌∷◌, Some, None, Option, length, refl, arith, inl, inr, get_or, ltb, cond, MatchOption, position}
use Rattle.std.specs.Option.{option_or}
use Rattle.std.specs.List.{position_or_len}
use Rattle.std.proofs.lemmas.List.Quantifiers.{position-Some}
use Rattle.std.proofs.lemmas.List.Sums.{fails_before_first}
use Rattle.std.proofs.lemmas.Bool.{both_ways, ltb-false}
use Rattle.boot_texts.specs.ConfChoice.{DefaultMatchesNone, IsDefaultEntry, default_place, first_place}
use Rattle.boot_texts.specs.PatternDecisions.{pattern_matches}
use Rattle.boot_texts.proofs.PatternDecisions.{pattern_decides}

abbrev IsPlace : Option (List ℕ) → List (List ℕ) → Option ℕ → Type 0
IsPlace default ids place = MatchOption place (length ids ≡ 0) (λ place. IsDefaultEntry default ids place)

first_of_none : (default : Option (List ℕ)) (ids : List (List ℕ)) → DefaultMatchesNone default ids → IsPlace default ids (first_place ids)
first_of_none default [] none = refl
first_of_none default (id ∷ ids) none = inr (refl, omega arith, none)

none_found : (b : Bool) (n : ℕ) → cond b (Some n) None ≡ None → b ≡ false
none_found true n h = cc
none_found false n h = refl

-- where no place is found no id passes
none_passes : (test : List ℕ → Bool) (ids : List (List ℕ)) → position test ids ≡ None → (k : ℕ) → k < length ids → test (get_or ids k []) ≡ false
none_passes test ids none k below =
    let at = position_or_len test ids in
    let past : length ids ≤ at = ltb-false at (length ids) (none_found (ltb at (length ids)) at none) in
    fails_before_first test ids k [] (omega (arith, past, below))

matched : (pattern : List ℕ) (ids : List (List ℕ)) (found : Option ℕ) → position (pattern_matches pattern) ids ≡ found → IsPlace (Some pattern) ids (option_or found (first_place ids))
matched pattern ids None is =
    first_of_none (Some pattern) ids (λ k below m. both_ways (pattern_matches pattern (get_or ids k [])) (none_passes (pattern_matches pattern) ids is k below) ((pattern_decides pattern (get_or ids k [])).1 m))
matched pattern ids (Some place) is =
    let found = position-Some (pattern_matches pattern) ids place [] is in
    inl (record {
      there = found.0;
      matched = (pattern_decides pattern (get_or ids place [])).0 found.1;
      first = λ k below m. both_ways (pattern_matches pattern (get_or ids k [])) (found.2 k below) ((pattern_decides pattern (get_or ids k [])).1 m);
    })

pub entry_at : (default : Option (List ℕ)) (ids : List (List ℕ)) → IsPlace default ids (default_place default ids)
unfolding default_place
entry_at None ids = first_of_none None ids (λ k below m. m)
entry_at (Some pattern) ids = matched pattern ids (position (pattern_matches pattern) ids) refl
