-- The lines of a text of settings.
use Rattle.std.specs.Prelude.{ℕ, ◌==◌, ◌-◌, Bool, false, not, ◌||◌, List, [], ◌∷◌, length, take, drop, map, filter, Option, Some, None}
use Rattle.std.specs.List.{prefix_len, slice_split, suffix_len}

-- a byte that doesn't count at either end of a line: a space, a tab or a carriage return
abbrev pub is_blank : ℕ → Bool
is_blank byte = byte == 32 || byte == 9 || byte == 13

-- the byte that ends a line
abbrev pub is_newline : ℕ → Bool
is_newline byte = byte == 10

-- a line without the blanks at its front
abbrev pub without_front_blanks : List ℕ → List ℕ
without_front_blanks line = drop (prefix_len is_blank line) line

-- a line without the blanks at its end
abbrev pub without_end_blanks : List ℕ → List ℕ
without_end_blanks line = take (length line - suffix_len is_blank line) line

-- a line without the blanks at both ends
abbrev pub trim_blanks : List ℕ → List ℕ
trim_blanks line = without_end_blanks (without_front_blanks line)

-- a line that counts: not empty, and no comment, which begins with `#`
abbrev pub is_counted : List ℕ → Bool
is_counted [] = false
is_counted (first ∷ _) = not (first == 35)

-- the lines that count among the pieces between newlines, each trimmed
abbrev pub counted_lines : List (List ℕ) → List (List ℕ)
counted_lines pieces = filter is_counted (map trim_blanks pieces)

-- what newlines part of what is left of a text; nothing is left behind its last line
abbrev pub pieces_of : Option (List ℕ) → List (List ℕ)
pieces_of None = []
pieces_of (Some text) = slice_split is_newline text

-- the lines of a text, in order: what newlines part, without the blanks at both ends, but for empty lines
-- and comments
abbrev pub lines_of : List ℕ → List (List ℕ)
lines_of text = counted_lines (slice_split is_newline text)
