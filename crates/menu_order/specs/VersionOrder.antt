-- The order of versions (UAPI Version Format).
use Rattle.std.specs.Prelude.{ℕ, List, [], ◌∷◌, ◌++◌}
use Rattle.std.specs.Ordering.{nat_cmp, on, then_cmp}
use Rattle.std.specs.Cmp.Lexicographic.{slice_cmp}
use Rattle.std.specs.declared.cmp.Ordering.{Ordering}
use Rattle.menu_order.specs.VersionTokens.{Token, Tilde, End, Hyphen, Caret, Dot, Letters, Number, tokens_of}

-- the place of a kind of token: a tilde is below the end, all others above it
abbrev pub rank_of : Token → ℕ
rank_of Tilde = 0
rank_of End = 1
rank_of Hyphen = 2
rank_of Caret = 3
rank_of Dot = 4
rank_of (Letters run) = 5
rank_of (Number n) = 6

-- the bytes of a run of letters
abbrev pub letters_of : Token → List ℕ
letters_of Tilde = []
letters_of End = []
letters_of Hyphen = []
letters_of Caret = []
letters_of Dot = []
letters_of (Letters run) = run
letters_of (Number n) = []

-- the number of a run of digits
abbrev pub token_number : Token → ℕ
token_number Tilde = 0
token_number End = 0
token_number Hyphen = 0
token_number Caret = 0
token_number Dot = 0
token_number (Letters run) = 0
token_number (Number n) = n

-- tokens go by their kind, then two runs of letters by their bytes, two runs of digits by their numbers
abbrev pub token_cmp : Token → Token → Ordering
token_cmp = then_cmp (on rank_of nat_cmp) (then_cmp (on letters_of (slice_cmp nat_cmp)) (on token_number nat_cmp))

-- the tokens with the end as the last of them
abbrev pub to_end : List Token → List Token
to_end tokens = tokens ++ End ∷ []

-- lists of tokens go by the first place where they differ, the end being a token too
abbrev pub tokens_cmp : List Token → List Token → Ordering
tokens_cmp = on to_end (slice_cmp token_cmp)

-- the order of two versions
abbrev pub version_cmp : List ℕ → List ℕ → Ordering
version_cmp = on tokens_of tokens_cmp
