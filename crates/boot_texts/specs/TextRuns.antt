-- How a list begins.
use Rattle.std.specs.Prelude.{◌≡◌, ℕ, Bool, true, List, [], ◌∷◌}

-- the list begins with an element that passes, so it isn't empty
abbrev pub BeginsWith : (ℕ → Bool) → List ℕ → Type 0
BeginsWith test [] = ⊥
BeginsWith test (first ∷ _) = test first ≡ true
