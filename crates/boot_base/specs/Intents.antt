-- What the parts of an intent come to.
use Rattle.std.specs.Prelude.{List, ℕ}
use Rattle.std.specs.Borrow.{Bor}
use Rattle.boot_base.specs.Paths.{Path}
use Rattle.boot_base.specs.declared.intent.IntentNames.{IntentNames}

-- the two paths that an intent names
abbrev pub names_of : IntentNames → Path × Path
names_of names = (names.from, names.to)

-- two parts of a slice
abbrev pub cut_of : Bor (List ℕ) × Bor (List ℕ) → List ℕ × List ℕ
cut_of parts = (parts.0.now, parts.1.now)

-- the most bytes of an intent: two paths of at most 1,024 bytes, each with a NUL
abbrev pub intent_limit : ℕ
intent_limit = 2050
