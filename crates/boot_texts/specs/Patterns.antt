-- The patterns of loader.conf: shell globs over bytes, as loader.conf(5), "default", has them.
use Rattle.std.specs.Prelude.{◌≡◌, ℕ, ◌==◌, Bool, false, true, not, ◌&&◌, List, [], ◌∷◌, ◌++◌, length, if◌then◌else◌, nat_le}
use Rattle.std.specs.List.{flat_map, list_all, list_any}

-- ---- sets

-- a member of a set: a byte, or all bytes from one to another
pub data SetMember : Type 0 where
  single : ℕ → SetMember
  range : ℕ → ℕ → SetMember

-- the members between the brackets of a set, read from the left: a byte, `-` and a byte are a range, any
-- other byte is a member of its own
abbrev pub members_of : List ℕ → List SetMember
members_of [] = []
members_of (first ∷ []) = single first ∷ []
members_of (first ∷ second ∷ []) = single first ∷ single second ∷ []
members_of (first ∷ second ∷ third ∷ rest) =
    if second == 45 then range first third ∷ members_of rest else single first ∷ members_of (second ∷ third ∷ rest)

-- the bytes that write a member
abbrev pub member_bytes : SetMember → List ℕ
member_bytes (single byte) = byte ∷ []
member_bytes (range low high) = low ∷ 45 ∷ high ∷ []

-- a byte equals a member, or lies in a range with both ends
abbrev pub member_holds : ℕ → SetMember → Bool
member_holds byte (single other) = byte == other
member_holds byte (range low high) = nat_le low byte && nat_le byte high

-- ---- items

-- an item of a pattern
pub data PatternItem : Type 0 where
  -- `*`
  any_run : PatternItem
  -- `?`
  any_byte : PatternItem
  -- what stands between `[` and `]`
  set : List ℕ → PatternItem
  -- the byte behind a backslash
  escape : ℕ → PatternItem
  -- any other byte
  plain : ℕ → PatternItem

-- the bytes that write an item
abbrev pub item_bytes : PatternItem → List ℕ
item_bytes any_run = 42 ∷ []
item_bytes any_byte = 63 ∷ []
item_bytes (set between) = 91 ∷ (between ++ 93 ∷ [])
item_bytes (escape byte) = 92 ∷ byte ∷ []
item_bytes (plain byte) = byte ∷ []

-- a byte outside a set that is no `*`, `?`, `[` and no backslash
abbrev pub stands_for_itself : ℕ → Bool
stands_for_itself byte = not (byte == 42) && not (byte == 63) && not (byte == 91) && not (byte == 92)

-- a byte other than the one that ends a set
abbrev pub is_inside_set : ℕ → Bool
is_inside_set byte = not (byte == 93)

-- a set has a member, and ends at its first `]`; a plain byte is not `*`, `?`, `[` or a backslash
abbrev pub is_pattern_item : PatternItem → Bool
is_pattern_item (set between) = not (length between == 0) && list_all is_inside_set between
is_pattern_item (plain byte) = stands_for_itself byte
is_pattern_item _ = true

-- the item is `*`
abbrev pub is_any_run : PatternItem → Bool
is_any_run any_run = true
is_any_run _ = false

-- an item other than `*` matches this byte
abbrev pub item_takes : PatternItem → ℕ → Bool
item_takes any_run byte = false
item_takes any_byte byte = true
item_takes (set between) byte = list_any (member_holds byte) (members_of between)
item_takes (escape other) byte = byte == other
item_takes (plain other) byte = byte == other

-- an item matches a piece of a text: `*` any piece, another item one byte that it takes
abbrev pub ItemMatches : PatternItem → List ℕ → Type 0
ItemMatches any_run piece = Unit {0}
ItemMatches item piece = (byte : ℕ) × (piece ≡ byte ∷ []) × (item_takes item byte ≡ true)

-- ---- patterns

-- the bytes are the list of items
abbrev pub AreItemsOf : List PatternItem → List ℕ → Type 0
AreItemsOf items bytes = (list_all is_pattern_item items ≡ true) × (bytes ≡ flat_map item_bytes items)

-- the bytes are a list of items
abbrev pub IsPattern : List ℕ → Type 0
IsPattern bytes = (items : List PatternItem) × AreItemsOf items bytes

-- items match a text that is a piece for each of them, in order
abbrev pub ItemsMatch : List PatternItem → List ℕ → Type 0
ItemsMatch [] text = text ≡ []
ItemsMatch (item ∷ items) text =
    (piece : List ℕ) × (rest : List ℕ) × (text ≡ piece ++ rest) × ItemMatches item piece × ItemsMatch items rest

-- a pattern matches a text; bytes that aren't a list of items match nothing
abbrev pub PatternMatches : List ℕ → List ℕ → Type 0
PatternMatches pattern text = (items : List PatternItem) × AreItemsOf items pattern × ItemsMatch items text
