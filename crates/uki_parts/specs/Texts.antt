-- Texts that count.
use Rattle.std.specs.Prelude.{ℕ, ◌==◌, Bool, not, List, length}

-- the text isn't empty
abbrev pub is_nonempty_text : List ℕ → Bool
is_nonempty_text text = not (length text == 0)
