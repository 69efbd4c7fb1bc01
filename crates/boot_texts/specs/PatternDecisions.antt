-- Whether a pattern matches a text, as a function.
use Rattle.std.specs.Prelude.{ℕ, zero, suc, Bool, false, ◌==◌, ◌&&◌, ◌||◌, List, [], ◌∷◌, length, is_some, Option, Some, None}
use Rattle.boot_texts.specs.Patterns.{PatternItem, any_run, item_takes}
use Rattle.boot_texts.specs.PatternItems.{item_reading}

-- an item and the items behind it, where they are items
abbrev pub with_item : PatternItem → Option (List PatternItem) → Option (List PatternItem)
with_item item None = None
with_item item (Some items) = Some (item ∷ items)

-- the items of bytes by their first item and what is read behind it
abbrev pub items_by : (List ℕ → Option (List PatternItem)) → List ℕ → Option (PatternItem × List ℕ)
    → Option (List PatternItem)
items_by behind [] first = Some []
items_by behind (byte ∷ bytes) None = None
items_by behind (byte ∷ bytes) (Some first) = with_item first.0 (behind first.1)

-- the items of bytes of at most this length, where they are a pattern
abbrev pub items_within : ℕ → List ℕ → Option (List PatternItem)
items_within zero bytes = items_by (λ rest. None) bytes None
items_within (suc n) bytes = items_by (items_within n) bytes (item_reading bytes)

-- some end of the text passes, or the whole text
abbrev pub any_end : (List ℕ → Bool) → List ℕ → Bool
any_end test [] = test []
any_end test (byte ∷ text) = test (byte ∷ text) || any_end test text

-- an item other than `*` matches the text's first byte, and what is behind it passes
abbrev pub first_passes : PatternItem → (List ℕ → Bool) → List ℕ → Bool
first_passes item test [] = false
first_passes item test (byte ∷ text) = item_takes item byte && test text

-- items match a text
abbrev pub item_passes : PatternItem → (List ℕ → Bool) → List ℕ → Bool
item_passes any_run test text = any_end test text
item_passes item test text = first_passes item test text

-- items match the whole of a text, one behind the other
abbrev pub items_match : List PatternItem → List ℕ → Bool
items_match [] text = length text == 0
items_match (item ∷ items) text = item_passes item (items_match items) text

-- whether the items of a pattern match a text; where it isn't a pattern they don't
abbrev pub items_decide : Option (List PatternItem) → List ℕ → Bool
items_decide None text = false
items_decide (Some items) text = items_match items text

-- whether a pattern matches a text
unfoldable pub pattern_matches : List ℕ → List ℕ → Bool
pattern_matches pattern text = items_decide (items_within (length pattern) pattern) text

-- whether bytes are a pattern
unfoldable pub is_pattern_text : List ℕ → Bool
is_pattern_text bytes = is_some (items_within (length bytes) bytes)
