-- What each item of a pattern matches, in the words of the manual.
use Rattle.std.specs.Prelude.{◌≡◌, ◌≢◌, ◌↔◌, ◌≤◌, ℕ, true, List, [], ◌∷◌, ◌++◌, ◌⊎◌}
use Rattle.std.specs.List.{Contains, flat_map, list_all}
use Rattle.boot_texts.specs.Patterns.{IsPattern, AreItemsOf, PatternItem, PatternMatches, is_inside_set, stands_for_itself, member_bytes, members_of, single, range}

-- the empty pattern matches the empty text alone
abbrev pub EmptyMatches : Type 0
EmptyMatches = (text : List ℕ) → PatternMatches [] text ↔ (text ≡ [])

-- `*` matches any run of bytes
abbrev pub StarMatches : Type 0
StarMatches =
    (pattern text : List ℕ) → PatternMatches (42 ∷ pattern) text
    ↔ ((run : List ℕ) × (rest : List ℕ) × (text ≡ run ++ rest) × PatternMatches pattern rest)

-- `?` matches any one byte
abbrev pub QuestionMatches : Type 0
QuestionMatches =
    (pattern text : List ℕ) → PatternMatches (63 ∷ pattern) text
    ↔ ((byte : ℕ) × (rest : List ℕ) × (text ≡ byte ∷ rest) × PatternMatches pattern rest)

-- a set matches one byte that equals a member, or lies in a range with both ends
abbrev pub IsInSet : ℕ → List ℕ → Type 0
IsInSet byte between =
    Contains (members_of between) (single byte)
    ⊎ ((low : ℕ) × (high : ℕ) × Contains (members_of between) (range low high) × (low ≤ byte) × (byte ≤ high))

-- a set in brackets, and what follows it, match a byte in the set and what follows that byte
abbrev pub SetMatches : Type 0
SetMatches =
    (between pattern text : List ℕ) → between ≢ [] → list_all is_inside_set between ≡ true
    → PatternMatches (91 ∷ (between ++ 93 ∷ pattern)) text
    ↔ ((byte : ℕ) × (rest : List ℕ) × (text ≡ byte ∷ rest) × IsInSet byte between × PatternMatches pattern rest)

-- the members of a set are all that stands between its brackets
abbrev pub MembersAreBetween : Type 0
MembersAreBetween = (between : List ℕ) → flat_map member_bytes (members_of between) ≡ between

-- a backslash and a byte match that byte
abbrev pub EscapeMatches : Type 0
EscapeMatches =
    (byte : ℕ) (pattern text : List ℕ) → PatternMatches (92 ∷ byte ∷ pattern) text
    ↔ ((rest : List ℕ) × (text ≡ byte ∷ rest) × PatternMatches pattern rest)

-- any other byte matches itself
abbrev pub PlainMatches : Type 0
PlainMatches =
    (byte : ℕ) (pattern text : List ℕ) → stands_for_itself byte ≡ true → PatternMatches (byte ∷ pattern) text
    ↔ ((rest : List ℕ) × (text ≡ byte ∷ rest) × PatternMatches pattern rest)

-- a set without end, or without a member, and a backslash at the end are no pattern
abbrev pub UnclosedIsNoPattern : Type 0
UnclosedIsNoPattern =
    ((rest : List ℕ) → list_all is_inside_set rest ≡ true → IsPattern (91 ∷ rest) → ⊥)
    × ((rest : List ℕ) → IsPattern (91 ∷ 93 ∷ rest) → ⊥) × (IsPattern (92 ∷ []) → ⊥)

-- bytes are one list of items at most
abbrev pub OneItemList : Type 0
OneItemList =
    (items others : List PatternItem) (bytes : List ℕ) → AreItemsOf items bytes → AreItemsOf others bytes
    → items ≡ others
