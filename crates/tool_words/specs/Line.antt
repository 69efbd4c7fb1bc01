-- The words of a line of a script, by the line's characters.
use Rattle.std.specs.Prelude.{ℕ, ◌==◌, ◌%◌, Bool, true, false, not, ◌||◌, ◌&&◌, List, [], ◌∷◌, map, filter, count_by, encode_utf8_all, if◌then◌else◌}
use Rattle.std.specs.List.{slice_split}

-- the single quote
abbrev pub is_quote : ℕ → Bool
is_quote c = c == 39

-- a space or a tab
abbrev pub is_word_gap : ℕ → Bool
is_word_gap c = c == 32 || c == 9

-- a quote is left open where the single quotes are odd in number
abbrev pub is_open : List ℕ → Bool
is_open line = count_by is_quote line % 2 == 1

-- what a character is: a gap between words, one of the two quotes round a piece, or itself
pub data Mark : Type 0 where
  Gap : Mark
  Quote : Mark
  Itself : ℕ → Mark

-- between two single quotes every character stands for itself
abbrev pub mark : Bool → ℕ → Mark
mark quoted c = if is_quote c then Quote else (if not quoted && is_word_gap c then Gap else Itself c)

-- what each character of a line stands for, from inside of quotes or outside of them on
abbrev pub marks : Bool → List ℕ → List Mark
marks quoted [] = []
marks quoted (c ∷ line) = mark quoted c ∷ marks (if is_quote c then not quoted else quoted) line

-- whether a mark is a gap
abbrev pub is_gap_mark : Mark → Bool
is_gap_mark Gap = true
is_gap_mark Quote = false
is_gap_mark (Itself c) = false

-- whether there is a mark
abbrev pub has_marks : List Mark → Bool
has_marks [] = false
has_marks (m ∷ ms) = true

-- the characters that stand for themselves
abbrev pub characters : List Mark → List ℕ
characters [] = []
characters (Gap ∷ ms) = characters ms
characters (Quote ∷ ms) = characters ms
characters (Itself c ∷ ms) = c ∷ characters ms

-- the text of the characters among marks
abbrev pub text : List Mark → List ℕ
text ms = encode_utf8_all (characters ms)

-- words are the pieces between the gaps, without their quotes. A piece of quotes alone is an empty word.
abbrev pub words_between : List (List Mark) → List (List ℕ)
words_between pieces = map text (filter has_marks pieces)

-- the words of a line
abbrev pub line_words : List ℕ → List (List ℕ)
line_words line = words_between (slice_split is_gap_mark (marks false line))
