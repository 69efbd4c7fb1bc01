-- Maps from the bytes of texts.
use Rattle.std.specs.Prelude.{ℕ, List, map, String, string_bytes}

-- entries by the bytes of their keys
abbrev pub by_text : {Y X : Type 0} → List (String Y × X) → List (List ℕ × X)
by_text entries = map (λ entry. (string_bytes entry.0, entry.1)) entries
