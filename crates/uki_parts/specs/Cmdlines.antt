-- Kernel command lines.
use Rattle.std.specs.Prelude.{ℕ, ◌==◌, Bool, ◌||◌, List, filter}
use Rattle.std.specs.List.{slice_split, join_with_byte}
use Rattle.uki_parts.specs.Texts.{is_nonempty_text}

-- a space, a tab, a newline, a carriage return, a vertical tab or a form feed
abbrev pub is_whitespace : ℕ → Bool
is_whitespace byte = byte == 32 || byte == 9 || byte == 10 || byte == 13 || byte == 11 || byte == 12

-- the words of a text, which whitespace parts
abbrev pub words_of : List ℕ → List (List ℕ)
words_of text = filter is_nonempty_text (slice_split is_whitespace text)

-- the words with a space between each two
abbrev pub clean_cmdline : List ℕ → List ℕ
clean_cmdline text = join_with_byte 32 (words_of text)
