-- No line is empty.
use Rattle.std.proofs.Common.{ℕ, ◌<◌, List, [], ◌∷◌, ◌++◌, length, arith}
use Rattle.serde_json.specs.Data.{Data}
use Rattle.serde_json.specs.Written.{compact_text}
use Rattle.list_json.specs.Lines.{json_line}

some_end : (text : List ℕ) → 0 < length (text ++ 10 ∷ [])
some_end [] = omega arith
some_end (byte ∷ text) = omega arith

pub some_json : (value : Data) → 0 < length (json_line value)
some_json value = some_end (compact_text value)
