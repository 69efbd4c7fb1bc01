-- Which entry a loader.conf chooses (loader.conf(5), "default").
use Rattle.std.specs.Prelude.{◌≡◌, ◌<◌, ℕ, List, [], ◌∷◌, length, Option, Some, None, position, slice_index_or, ◌⊎◌}
use Rattle.std.specs.Option.{option_or}
use Rattle.boot_texts.specs.PatternDecisions.{pattern_matches}
use Rattle.boot_texts.specs.Patterns.{PatternMatches}

-- the default matches an entry's id; where there is none, it matches nothing
abbrev pub DefaultMatches : Option (List ℕ) → List ℕ → Type 0
DefaultMatches None id = ⊥
DefaultMatches (Some pattern) id = PatternMatches pattern id

-- the id of an entry is matched, and none before it
pub record IsFirstMatch (default : Option (List ℕ)) (ids : List (List ℕ)) (place : ℕ) : Type 0 where
  pub there : place < length ids
  pub matched : DefaultMatches default (slice_index_or ids place [])
  pub first : (k : ℕ) → k < place → DefaultMatches default (slice_index_or ids k []) → ⊥

-- no id is matched
abbrev pub DefaultMatchesNone : Option (List ℕ) → List (List ℕ) → Type 0
DefaultMatchesNone default ids = (k : ℕ) → k < length ids → DefaultMatches default (slice_index_or ids k []) → ⊥

-- the first entry whose id is matched, or the first of all where none is
abbrev pub IsDefaultEntry : Option (List ℕ) → List (List ℕ) → ℕ → Type 0
IsDefaultEntry default ids place =
    IsFirstMatch default ids place ⊎ ((place ≡ 0) × (0 < length ids) × DefaultMatchesNone default ids)

-- ---- the same as a function

-- the first place of all
abbrev pub first_place : List (List ℕ) → Option ℕ
first_place [] = None
first_place (id ∷ ids) = Some 0

-- the first place of an id that the default matches
abbrev pub match_place : Option (List ℕ) → List (List ℕ) → Option ℕ
match_place None ids = None
match_place (Some pattern) ids = position (pattern_matches pattern) ids

-- the place of the entry that boots by default; nothing where there is no entry
unfoldable pub default_place : Option (List ℕ) → List (List ℕ) → Option ℕ
default_place default ids = option_or (match_place default ids) (first_place ids)
