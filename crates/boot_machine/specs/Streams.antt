-- What a sink has taken of a range.
use Rattle.std.specs.Prelude.{◌≡◌, ℕ, List}

-- what is known of a sink and a machine before, and of both after bytes were taken
abbrev pub Taking : Type 0 → Type 0 → Type 1
Taking S M = List ℕ → S → M → S → M → Type 0

-- bytes were taken, which are these where the condition holds
abbrev pub TookWhere : {S M : Type 0} → Taking S M → Type 0 → List ℕ → S → M → S → M → Type 0
TookWhere took condition bytes s m t n = (taken : List ℕ) × took taken s m t n × (condition → taken ≡ bytes)

-- some bytes were taken
abbrev pub TookSome : {S M : Type 0} → Taking S M → S → M → S → M → Type 0
TookSome took s m t n = (taken : List ℕ) × took taken s m t n
