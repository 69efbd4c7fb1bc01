-- The first item of a pattern, as the code reads it.
use Rattle.std.specs.Prelude.{ℕ, ◌==◌, ◌||◌, ◌+◌, Bool, List, [], ◌∷◌, length, drop, take, Option, Some, None, if◌then◌else◌}
use Rattle.std.specs.List.{position_or_len}
use Rattle.boot_texts.specs.Patterns.{PatternItem, any_run, any_byte, set, escape, plain}
use Rattle.boot_texts.specs.Patterns as pattern
use Rattle.boot_texts.specs.declared.pattern_item.Item.{Item}
use Rattle.boot_texts.specs.declared.pattern_item.Item.TheVariants.{AnyRun, AnyByte, Set, Escaped, Plain}

-- the item that an item of the code stands for
abbrev pub item_of : Item → pattern.PatternItem
item_of AnyRun = pattern.any_run
item_of AnyByte = pattern.any_byte
item_of (Set between) = pattern.set between.now
item_of (Escaped byte) = pattern.escape byte
item_of (Plain byte) = pattern.plain byte

-- the byte behind a backslash, and what is behind it
abbrev pub escape_reading : List ℕ → Option (PatternItem × List ℕ)
escape_reading [] = None
escape_reading (byte ∷ rest) = Some (escape byte, rest)

-- the byte that ends a set
abbrev pub ends_set : ℕ → Bool
ends_set byte = byte == 93

-- what stands before the first `]`, and behind it
abbrev pub set_reading : List ℕ → Option (PatternItem × List ℕ)
set_reading text =
    let end = position_or_len ends_set text in
    if end == 0 || end == length text then None else Some (set (take end text), drop (end + 1) text)

-- the first item of a pattern, and what is behind it
abbrev pub item_reading : List ℕ → Option (PatternItem × List ℕ)
item_reading [] = None
item_reading (byte ∷ rest) =
    if byte == 42 then Some (any_run, rest)
    else if byte == 63 then Some (any_byte, rest)
    else if byte == 91 then set_reading rest
    else if byte == 92 then escape_reading rest
    else Some (plain byte, rest)
