-- The lines of a file as they stand, and the text in which a key has another value.
use Rattle.std.specs.Prelude.{◌≡◌, ℕ, ◌==◌, Bool, not, List, [], ◌∷◌, ◌++◌, length, filter, is_some, Option, None, if◌then◌else◌, ◌⊎◌}
use Rattle.std.specs.List.{flat_map, slice_split}
use Rattle.boot_texts.specs.EntryLines.{entry_reading}
use Rattle.boot_texts.specs.TextLines.{is_counted, is_newline, trim_blanks}
use Rattle.boot_texts.specs.KeyValues.{Pair, given_value}

-- a last piece without newline is a line where it isn't empty
abbrev pub without_empty_end : List (List ℕ) → List (List ℕ)
without_empty_end [] = []
without_empty_end (piece ∷ []) = if length piece == 0 then [] else piece ∷ []
without_empty_end (piece ∷ next ∷ pieces) = piece ∷ without_empty_end (next ∷ pieces)

-- the lines of a file byte for byte, without their newlines
abbrev pub raw_lines : List ℕ → List (List ℕ)
raw_lines text = without_empty_end (slice_split is_newline text)

-- a line with a newline behind it
abbrev pub with_newline : List ℕ → List ℕ
with_newline line = line ++ 10 ∷ []

-- the text of lines, each with its newline
abbrev pub text_of_lines : List (List ℕ) → List ℕ
text_of_lines lines = flat_map with_newline lines

-- the whole is the text, or the text with a newline behind it
abbrev pub IsTextButForNewline : List ℕ → List ℕ → Type 0
IsTextButForNewline whole text = (whole ≡ text) ⊎ (whole ≡ text ++ 10 ∷ [])

-- the key and the value of a line as it stands, which may have blanks at its ends, or be empty or a comment
abbrev pub file_line_reading : List ℕ → Option Pair
file_line_reading line = if is_counted (trim_blanks line) then entry_reading (trim_blanks line) else None

-- a line that gives the key no value
abbrev pub lacks_value : List ℕ → List ℕ → Bool
lacks_value key line = not (is_some (given_value key (file_line_reading line)))

-- a line that gives the key the value
abbrev pub key_line : List ℕ → List ℕ → List ℕ
key_line key value = key ++ 32 ∷ value

-- the text with the key's value: the lines that give it one are dropped, and one that gives it this value is added
abbrev pub text_with_value : List ℕ → List ℕ → List ℕ → List ℕ
text_with_value key value text = text_of_lines (filter (lacks_value key) (raw_lines text) ++ key_line key value ∷ [])
