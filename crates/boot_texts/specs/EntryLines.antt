-- The lines of a type 1 entry file (UAPI Boot Loader Specification, "Type #1 Boot Loader Specification Entries"), and
-- of loader.conf, which has the same ones.
use Rattle.std.specs.Prelude.{◌≡◌, ◌≢◌, ℕ, ◌==◌, Bool, not, ◌||◌, true, List, [], ◌++◌, length, drop, Option, Some, None, if◌then◌else◌}
use Rattle.std.specs.List.{filter_map, list_all, position_or_len, prefix_len, before_first}
use Rattle.boot_texts.specs.TextLines.{lines_of}
use Rattle.boot_texts.specs.TextRuns.{BeginsWith}
use Rattle.boot_texts.specs.KeyValues.{Pair, last_value, values_of}

-- a byte of the gap between a key and its value: a space or a tab
abbrev pub is_gap : ℕ → Bool
is_gap byte = byte == 32 || byte == 9

-- a byte that is neither a space nor a tab
abbrev pub is_not_gap : ℕ → Bool
is_not_gap byte = not (is_gap byte)

-- the line is a key, a gap of one or more spaces and tabs, and a value that isn't empty; the gap is the
-- whole run behind the key
pub record EntryLine (line key value : List ℕ) : Type 0 where
  pub gap : List ℕ
  pub parts : line ≡ key ++ (gap ++ value)
  pub key_is_there : key ≢ []
  pub key_has_no_gap : list_all is_not_gap key ≡ true
  pub gap_is_there : gap ≢ []
  pub gap_is_blank : list_all is_gap gap ≡ true
  pub value_begins : BeginsWith is_not_gap value

-- the key of a line: what stands before its first gap
abbrev pub key_of : List ℕ → List ℕ
key_of line = before_first is_gap line

-- the value of a line: what stands behind its first gap
abbrev pub value_of : List ℕ → List ℕ
value_of line = let rest = drop (position_or_len is_gap line) line in drop (prefix_len is_gap rest) rest

-- the key and the value of a line that has both
abbrev pub entry_reading : List ℕ → Option Pair
entry_reading line =
    if length (key_of line) == 0 || length (value_of line) == 0 then None else Some (key_of line, value_of line)

-- the keys and values of a file, in order
abbrev pub entry_pairs : List ℕ → List Pair
entry_pairs text = filter_map entry_reading (lines_of text)

-- the value of a key in a file: that of the last line that has one
abbrev pub entry_value : List ℕ → List ℕ → Option (List ℕ)
entry_value key text = last_value key (entry_pairs text)

-- all values of a key in a file, in order
abbrev pub entry_values : List ℕ → List ℕ → List (List ℕ)
entry_values key text = values_of key (entry_pairs text)
