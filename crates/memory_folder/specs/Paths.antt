-- Lists of paths to which some come.
use Rattle.std.specs.Prelude.{◌≡◌, ◌⊎◌, ℕ, true, List}
use Rattle.name_syncs.specs.Paths.{has_path}

-- each of the new ones was there before
abbrev pub AddsNone : List (List ℕ) → List (List ℕ) → Type 0
AddsNone old new = (other : List ℕ) → has_path new other ≡ true → has_path old other ≡ true

-- each of the new ones was there before, or is this path
abbrev pub AddsOnly : List ℕ → List (List ℕ) → List (List ℕ) → Type 0
AddsOnly path old new =
    (other : List ℕ) → has_path new other ≡ true → (has_path old other ≡ true) ⊎ (other ≡ path)
