-- What a lexeme of the code stands for.
use Rattle.std.specs.Prelude.{ℕ, Bool, ◌≡◌, ◌<◌, List, [], ◌∷◌, length, is_some, ◌==◌, drop}
use Rattle.std.specs.List.{prefix_len}
use Rattle.std.specs.Str.Parse.{AllDigits, digits_value}
use Rattle.menu_order.specs.VersionTokens.{Token, tokens_of, run_token}
use Rattle.menu_order.specs.VersionTokens as token
use Rattle.menu_order.specs.declared.lexeme.Lexeme.{Lexeme}
use Rattle.menu_order.specs.declared.lexeme.Lexeme.TheVariants.{Tilde, End, Hyphen, Caret, Dot, Letters, Digits}

-- the token that a lexeme stands for
abbrev pub token_of : Lexeme → Token
token_of Tilde = token.Tilde
token_of End = token.End
token_of Hyphen = token.Hyphen
token_of Caret = token.Caret
token_of Dot = token.Dot
token_of (Letters run) = token.Letters run.now
token_of (Digits run) = token.Number (digits_value 10 run.now)

-- a lexeme of digits has digits alone
abbrev pub IsLexeme : Lexeme → Type 0
IsLexeme (Digits run) = AllDigits 10 run.now
IsLexeme _ = Unit {0}

-- whether a byte is one of a token, and doesn't only separate
abbrev pub is_of_token : ℕ → Bool
is_of_token b = is_some (run_token (b ∷ []))

-- whether a byte is the digit 0
abbrev pub is_zero : ℕ → Bool
is_zero b = b == 48

-- the digits after the leading zeros
abbrev pub significant_digits : List ℕ → List ℕ
significant_digits digits = drop (prefix_len is_zero digits) digits

-- the text begins with the lexeme, after bytes that only separate, and goes on with the rest; the end has no rest
abbrev pub HasFirstLexeme : List ℕ → Lexeme → List ℕ → Type 0
HasFirstLexeme text End rest = tokens_of text ≡ []
HasFirstLexeme text lexeme rest = (tokens_of text ≡ token_of lexeme ∷ tokens_of rest) × (length rest < length text)
