-- The lines of an os-release text, after os-release(5).
use Rattle.std.specs.Prelude.{◌≡◌, ℕ, ◌==◌, ◌+◌, Bool, false, true, not, ◌||◌, ◌&&◌, List, [], ◌∷◌, ◌++◌, length, Option, Some, None, if◌then◌else◌, nat_lt}
use Rattle.std.specs.Char.{is_ascii_alphabetic, is_ascii_alphanumeric}
use Rattle.std.specs.List.{after_first, before_first, flat_map, list_all, position_or_len}
use Rattle.std.specs.Option.{option_map}
use Rattle.boot_texts.specs.KeyValues.{Pair}

-- ---- keys

-- a key begins with an ASCII letter or `_`
abbrev pub is_key_start : ℕ → Bool
is_key_start byte = is_ascii_alphabetic byte || byte == 95

-- and goes on with ASCII letters, digits and `_`
abbrev pub is_key_byte : ℕ → Bool
is_key_byte byte = is_ascii_alphanumeric byte || byte == 95

-- a text of which the first byte may begin a key and each other may go on with it
abbrev pub is_key : List ℕ → Bool
is_key [] = false
is_key (first ∷ rest) = is_key_start first && list_all is_key_byte rest

-- ---- values

-- a byte that stands for itself without quotes: no space or tab, no quote, no backslash, `$` or backquote
abbrev pub is_bare : ℕ → Bool
is_bare byte = not (byte == 32 || byte == 9 || byte == 34 || byte == 39 || byte == 92 || byte == 36 || byte == 96)

-- a byte that may stand between single quotes
abbrev pub is_not_single : ℕ → Bool
is_not_single byte = not (byte == 39)

-- a byte that a backslash between double quotes escapes: `"`, `$`, a backslash or a backquote
abbrev pub is_escapable : ℕ → Bool
is_escapable byte = byte == 34 || byte == 36 || byte == 92 || byte == 96

-- a piece of a text between double quotes
pub data Piece : Type 0 where
  -- a byte that is neither a double quote nor a backslash
  plain : ℕ → Piece
  -- a backslash and a byte that it escapes
  escaped : ℕ → Piece
  -- a backslash and a byte that it doesn't escape
  kept : ℕ → Piece

-- the byte of a piece is one that its case names
abbrev pub is_piece : Piece → Bool
is_piece (plain byte) = not (byte == 34) && not (byte == 92)
is_piece (escaped byte) = is_escapable byte
is_piece (kept byte) = not (is_escapable byte)

-- how a piece is written
abbrev pub piece_text : Piece → List ℕ
piece_text (plain byte) = byte ∷ []
piece_text (escaped byte) = 92 ∷ byte ∷ []
piece_text (kept byte) = 92 ∷ byte ∷ []

-- what a piece stands for
abbrev pub piece_value : Piece → List ℕ
piece_value (plain byte) = byte ∷ []
piece_value (escaped byte) = byte ∷ []
piece_value (kept byte) = 92 ∷ byte ∷ []

-- what is written between double quotes stands for the value
pub record IsBetweenQuotes (text value : List ℕ) : Type 0 where
  pub pieces : List Piece
  pub are_pieces : list_all is_piece pieces ≡ true
  pub text_is : text ≡ flat_map piece_text pieces
  pub value_is : value ≡ flat_map piece_value pieces

-- the text behind the `=` stands for the value
pub data IsWritten (text value : List ℕ) : Type 0 where
  -- no value
  nothing : text ≡ [] → value ≡ [] → IsWritten text value
  -- a run of bytes that stand for themselves
  bare : list_all is_bare text ≡ true → value ≡ text → IsWritten text value
  -- single quotes round the value
  single : list_all is_not_single value ≡ true → text ≡ 39 ∷ (value ++ 39 ∷ []) → IsWritten text value
  -- double quotes, with escapes between them
  double : (between : List ℕ) → text ≡ 34 ∷ (between ++ 34 ∷ []) → IsBetweenQuotes between value → IsWritten text value

-- the line is an assignment of that value to that key
pub record OsLine (line key value : List ℕ) : Type 0 where
  pub text : List ℕ
  pub parts : line ≡ key ++ 61 ∷ text
  pub key_is : is_key key ≡ true
  pub value_is : IsWritten text value

-- ---- the value that a text is read as

-- what the text behind an opening single quote stands for
abbrev pub single_reading : List ℕ → Option (List ℕ)
single_reading text =
    let end = position_or_len (λ byte. byte == 39) text in if end + 1 == length text
    then Some (before_first (λ byte. byte == 39) text) else None

-- bytes in front of a value, if there is one
abbrev pub behind : List ℕ → Option (List ℕ) → Option (List ℕ)
behind front value = option_map (λ rest. front ++ rest) value

-- what the text behind an opening double quote stands for
abbrev pub double_reading : List ℕ → Option (List ℕ)
double_reading [] = None
double_reading (byte ∷ []) = if byte == 34 then Some [] else None
double_reading (byte ∷ next ∷ rest) =
    if byte == 34 then None
    else if byte == 92 then (if is_escapable next then behind (next ∷ []) (double_reading rest)
    else behind (byte ∷ next ∷ []) (double_reading rest))
    else behind (byte ∷ []) (double_reading (next ∷ rest))

-- what the text behind the `=` stands for
abbrev pub value_reading : List ℕ → Option (List ℕ)
value_reading [] = Some []
value_reading (first ∷ rest) =
    if first == 39 then single_reading rest
    else if first == 34 then double_reading rest
    else if list_all is_bare (first ∷ rest) then Some (first ∷ rest)
    else None

-- the byte between a key and its value
abbrev pub is_equals : ℕ → Bool
is_equals byte = byte == 61

-- the key and the value of a line that is an assignment
abbrev pub os_reading : List ℕ → Option Pair
os_reading line =
    let key = before_first is_equals line in
    if nat_lt (position_or_len is_equals line) (length line) && is_key key
    then option_map (λ value. (key, value)) (value_reading (after_first is_equals line))
    else None
