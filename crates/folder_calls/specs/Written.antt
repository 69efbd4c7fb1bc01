-- What a writer holds after bytes were written in pieces.
use Rattle.std.specs.Prelude.{◌≡◌, ℕ, List, ◌++◌, Option}
use Rattle.std.specs.Io.KnownBytes.{Appends}

-- known bytes grow by a first part of these, or by all
abbrev pub AppendsStart : Option (List ℕ) → Option (List ℕ) → List ℕ → Type 0
AppendsStart old new bytes = (start : List ℕ) × ((rest : List ℕ) × (bytes ≡ start ++ rest)) × Appends old new start
