-- The line of a value: its compact text and a newline.
use Rattle.std.specs.Prelude.{◌≡◌, ℕ, List, [], ◌∷◌, ◌++◌, Some, IsUtf8}
use Rattle.serde_json.specs.Data.{Data}
use Rattle.serde_json.specs.Read.{read}
use Rattle.serde_json.specs.Written.{compact_text}

-- the value without spaces, and a newline (RFC 8259, section 2)
abbrev pub json_line : Data → List ℕ
json_line value = compact_text value ++ 10 ∷ []

-- the line is UTF-8 and, read as JSON, has this value
abbrev pub ReadsAs : List ℕ → Data → Type 0
ReadsAs line value = IsUtf8 line × (read line ≡ Some value)
