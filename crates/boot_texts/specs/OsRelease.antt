-- An os-release text, after os-release(5).
use Rattle.std.specs.Prelude.{ℕ, ◌==◌, List, length, Option, Some, None, if◌then◌else◌, codes}
use Rattle.std.specs.List.{before_first, filter_map}
use Rattle.std.specs.Option.{option_or}
use Rattle.boot_texts.specs.TextLines.{lines_of}
use Rattle.boot_texts.specs.KeyValues.{Pair, last_value}
use Rattle.boot_texts.specs.OsLines.{os_reading}

-- the lines of a text, which ends before its first NUL
abbrev pub os_lines : List ℕ → List (List ℕ)
os_lines text = lines_of (before_first (λ byte. byte == 0) text)

-- the keys and values of a text, in order
abbrev pub os_pairs : List ℕ → List Pair
os_pairs text = filter_map os_reading (os_lines text)

-- a value that isn't empty
abbrev pub nonempty_value : Option (List ℕ) → Option (List ℕ)
nonempty_value None = None
nonempty_value (Some value) = if length value == 0 then None else Some value

-- the last value of a key, if it isn't empty
abbrev pub filled_value : List ℕ → List Pair → Option (List ℕ)
filled_value key pairs = nonempty_value (last_value key pairs)

-- the title: the first of four keys that has a value
abbrev pub title_of : List Pair → Option (List ℕ)
title_of pairs =
    option_or (filled_value (codes "PRETTY_NAME") pairs)
    (option_or (filled_value (codes "IMAGE_ID") pairs)
    (option_or (filled_value (codes "NAME") pairs)
    (filled_value (codes "ID") pairs)))

-- the version: the first of four keys that has a value
abbrev pub version_of : List Pair → Option (List ℕ)
version_of pairs =
    option_or (filled_value (codes "IMAGE_VERSION") pairs)
    (option_or (filled_value (codes "VERSION") pairs)
    (option_or (filled_value (codes "VERSION_ID") pairs)
    (filled_value (codes "BUILD_ID") pairs)))

-- what entries are ordered by: the first of two keys that has a value
abbrev pub sort_key_of : List Pair → Option (List ℕ)
sort_key_of pairs = option_or (filled_value (codes "IMAGE_ID") pairs) (filled_value (codes "ID") pairs)
