-- A version as a list of tokens (UAPI Version Format, where it says what is compared).
use Rattle.std.specs.Prelude.{ℕ, Bool, ◌||◌, ◌&&◌, ◌==◌, List, [], ◌∷◌, Option, Some, None, if◌then◌else◌}
use Rattle.std.specs.Char.{is_ascii_alphabetic, is_ascii_digit}
use Rattle.std.specs.Str.Parse.{digits_value}
use Rattle.std.specs.List.{filter_map}

-- a token: one of the four marks, the end of the version, a run of letters with its bytes, or a run of digits with its
-- number
pub data Token : Type 0 where
  Tilde : Token
  End : Token
  Hyphen : Token
  Caret : Token
  Dot : Token
  Letters : List ℕ → Token
  Number : ℕ → Token

-- two neighbouring bytes belong to one run if both are ASCII letters, or both are ASCII digits
abbrev pub is_one_run : ℕ → ℕ → Bool
is_one_run b c = (is_ascii_alphabetic b && is_ascii_alphabetic c) || (is_ascii_digit b && is_ascii_digit c)

-- a byte in front of a text that is cut into runs: it joins the first run, or is a run of its own
abbrev pub join_run : ℕ → List (List ℕ) → List (List ℕ)
join_run b [] = (b ∷ []) ∷ []
join_run b ([] ∷ runs) = (b ∷ []) ∷ runs
join_run b ((c ∷ run) ∷ runs) = if is_one_run b c then ((b ∷ c ∷ run) ∷ runs) else ((b ∷ []) ∷ (c ∷ run) ∷ runs)

-- the text cut between any two neighbouring bytes that don't belong to one run
abbrev pub runs_of : List ℕ → List (List ℕ)
runs_of [] = []
runs_of (b ∷ bs) = join_run b (runs_of bs)

-- the token of a run, where 126 is `~`, 45 `-`, 94 `^` and 46 `.`; bytes of no token only separate
abbrev pub run_token : List ℕ → Option Token
run_token [] = None
run_token (b ∷ bs) =
    if is_ascii_alphabetic b then Some (Letters (b ∷ bs))
    else if is_ascii_digit b then Some (Number (digits_value 10 (b ∷ bs)))
    else if b == 126 then Some Tilde
    else if b == 45 then Some Hyphen
    else if b == 94 then Some Caret
    else if b == 46 then Some Dot
    else None

-- the tokens of a version
abbrev pub tokens_of : List ℕ → List Token
tokens_of text = filter_map run_token (runs_of text)
