-- The values that the lines of a text give to keys.
use Rattle.std.specs.Prelude.{◌≡◌, ℕ, Bool, List, [], ◌∷◌, ◌++◌, map, filter, Option, Some, None, bytes_eq, if◌then◌else◌, ◌⊎◌}
use Rattle.std.specs.List.{All, last_or}

-- a key and its value
abbrev pub Pair : Type 0
Pair = List ℕ × List ℕ

-- a relation of a line, a key and the value that the line gives it
abbrev pub Grammar : Type 1
Grammar = List ℕ → List ℕ → List ℕ → Type 0

-- the pair is one of that key
abbrev pub has_key : List ℕ → Pair → Bool
has_key key pair = bytes_eq pair.0 key

-- the value that a line gives a key, where the line was read as this pair, or as none
abbrev pub given_value : List ℕ → Option Pair → Option (List ℕ)
given_value key None = None
given_value key (Some pair) = if has_key key pair then Some pair.1 else None

-- all values of a key, in order
abbrev pub values_of : List ℕ → List Pair → List (List ℕ)
values_of key pairs = map (λ pair. pair.1) (filter (has_key key) pairs)

-- the last value of a key, if it has one
abbrev pub last_value : List ℕ → List Pair → Option (List ℕ)
last_value key pairs = last_or None (values_of key pairs)

-- no line gives the key a value
abbrev pub LacksKey : Grammar → List ℕ → List (List ℕ) → Type 0
LacksKey gives key lines = All (λ line. (value : List ℕ) → gives line key value → ⊥) lines

-- the last of the lines that give the key a value gives it this one
abbrev pub IsLastValue : Grammar → List ℕ → List (List ℕ) → List ℕ → Type 0
IsLastValue gives key lines value =
    (before : List (List ℕ)) × (line : List ℕ) × (after : List (List ℕ))
    × (lines ≡ before ++ line ∷ after) × gives line key value × LacksKey gives key after

-- the values that the lines give the key, in order: from each line that gives it one, and from no other line
abbrev pub AreAllValues : Grammar → List ℕ → List (List ℕ) → List (List ℕ) → Type 0
AreAllValues gives key [] values = values ≡ []
AreAllValues gives key (line ∷ lines) values =
    ((value : List ℕ) × (rest : List (List ℕ)) × (values ≡ value ∷ rest) × gives line key value
    × AreAllValues gives key lines rest)
    ⊎ (((value : List ℕ) → gives line key value → ⊥) × AreAllValues gives key lines values)
