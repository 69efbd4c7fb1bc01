-- The search for a match, step by step.
use Rattle.std.specs.Prelude.{◌↔◌, ◌<◌, List, [], ◌∷◌, ℕ, length, Option, Some, None, ◌⊎◌}
use Rattle.boot_texts.specs.Patterns.{PatternMatches}
use Rattle.boot_texts.specs.declared.pattern.Step.{Step}
use Rattle.boot_texts.specs.declared.pattern.Step.TheVariants.{Done, Never, Run, On, Fails}

-- the pattern matches what is behind some byte of the text
abbrev pub MatchesLater : List ℕ → List ℕ → Type 0
MatchesLater pattern [] = ⊥
MatchesLater pattern (byte ∷ text) = PatternMatches pattern text ⊎ MatchesLater pattern text

-- where a search goes on, if what it tries now fails: the pattern behind the last `*`, at later places
abbrev pub SearchMatches : Option (List ℕ × List ℕ) → Type 0
SearchMatches None = ⊥
SearchMatches (Some start) = MatchesLater start.0 start.1

-- what a step says of a pattern and a text
abbrev pub IsSearchStep : List ℕ → List ℕ → Step → Type 0
IsSearchStep pattern text Done = PatternMatches pattern text
IsSearchStep pattern text Fails = PatternMatches pattern text → ⊥
IsSearchStep pattern text Never = (other : List ℕ) → PatternMatches pattern other → ⊥
IsSearchStep pattern text (Run behind) =
    (length behind.now < length pattern) × ((other : List ℕ) → PatternMatches pattern other
    ↔ (PatternMatches behind.now other ⊎ MatchesLater behind.now other))
IsSearchStep pattern text (On behind rest) =
    (length behind.now < length pattern) × (length rest.now < length text)
    × (PatternMatches pattern text ↔ PatternMatches behind.now rest.now)
    × (MatchesLater pattern text → MatchesLater behind.now rest.now)
