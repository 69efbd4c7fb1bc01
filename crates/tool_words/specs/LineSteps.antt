-- The words of a line, when it is read as far as some character.
use Rattle.std.specs.Prelude.{ℕ, List, [], ◌∷◌, ◌++◌, Option, Some, None, string_bytes}
use Rattle.std.specs.Option.{option_map}
use Rattle.std.specs.List.{slice_split}
use Rattle.tool_words.specs.declared.line.SoFar.{SoFar}
use Rattle.tool_words.specs.Line.{Mark, is_gap_mark, marks, text, words_between}
use Rattle.tool_words.specs.Shown.{texts}

-- the words of the pieces, of which the first goes on a word that is begun
abbrev pub words_on : Option (List ℕ) → List (List Mark) → List (List ℕ)
words_on None pieces = words_between pieces
words_on (Some word) [] = word ∷ []
words_on (Some word) (piece ∷ pieces) = (word ++ text piece) ∷ words_between pieces

-- the words so far, and those of the rest of the line
abbrev pub all_words : SoFar → List ℕ → List (List ℕ)
all_words s rest =
    texts s.words.items ++ words_on (option_map string_bytes s.word) (slice_split is_gap_mark (marks s.quoted rest))
