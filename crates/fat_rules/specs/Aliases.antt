-- Short names of FAT (Microsoft FAT specification, "Short Directory Entries" and "Naming Conventions"; the driver of
-- Linux, fs/fat/namei_vfat.c), on the bytes of their UTF-8.
use Rattle.std.specs.Prelude.{◌≡◌, ◌≢◌, ◌≤◌, ℕ, codes, ◌+◌, ◌==◌, Bool, true, false, not, ◌&&◌, ◌||◌, nat_lt, nat_le, List, ◌∷◌, ◌++◌, take, drop, count_by, position, Option, Some, None}
use Rattle.std.specs.Borrow.{Bor}
use Rattle.std.specs.Char.{is_ascii_digit, is_ascii_lowercase}
use Rattle.std.specs.List.{list_all, list_any}
use Rattle.std.specs.Option.{option_map}
use Rattle.std.specs.StrCase.Upper.{str_to_uppercase}
use Rattle.menu_order.specs.Counter.{IsCounted}
use Rattle.menu_order.specs.declared.counted.Suffix.{Suffix}

-- `.`
abbrev pub is_dot : ℕ → Bool
is_dot byte = byte == 46

-- what stands before the first dot of a name and behind it, where it has one
abbrev pub at_dot : List ℕ → Option (List ℕ × List ℕ)
at_dot name = option_map (λ at. (take at name, drop (at + 1) name)) (position is_dot name)

-- two parts of a name
abbrev pub cut_of_name : Bor (List ℕ) × Bor (List ℕ) → List ℕ × List ℕ
cut_of_name parts = (parts.0.now, parts.1.now)

-- the byte is the first of a letter's: no continuation byte of UTF-8 (RFC 3629)
abbrev pub is_letter_start : ℕ → Bool
is_letter_start byte = not (nat_le 128 byte && nat_lt byte 192)

-- how many letters a text has
abbrev pub letter_count : List ℕ → ℕ
letter_count text = count_by is_letter_start text

-- a part of a short name: it isn't empty, and has at most so many letters
abbrev pub is_part : ℕ → List ℕ → Bool
is_part limit text = nat_lt 0 (letter_count text) && nat_le (letter_count text) limit

-- The byte may stand in a short name, or is the dot between its parts. The specification forbids what is below 0x20, and
-- `"*+,./:;<=>?[\]|`.
abbrev pub is_short_byte : ℕ → Bool
is_short_byte byte =
    not (nat_lt byte 32 || byte == 34 || (nat_le 42 byte && nat_le byte 44) || byte == 47
    || (nat_le 58 byte && nat_le byte 63) || (nat_le 91 byte && nat_le byte 93) || byte == 124)

-- a stem of 8 letters at most, and an extension of 3 at most where there is a dot
abbrev pub has_short_parts : List ℕ → Option (List ℕ × List ℕ) → Bool
has_short_parts name None = is_part 8 name
has_short_parts name (Some parts) = is_part 8 parts.0 && is_part 3 parts.1 && not (list_any is_dot parts.1)

-- what stands before the dot, or all
abbrev pub stem_of_name : List ℕ → Option (List ℕ × List ℕ) → List ℕ
stem_of_name name None = name
stem_of_name name (Some parts) = parts.0

-- `~`
abbrev pub has_tilde : List ℕ → Bool
has_tilde text = list_any (λ byte. byte == 126) text

-- a letter from a to z
abbrev pub has_small_letter : List ℕ → Bool
has_small_letter text = list_any is_ascii_lowercase text

-- a short name, in the 8.3 form
abbrev pub is_short_name : List ℕ → Bool
is_short_name name = list_all is_short_byte name && has_short_parts name (at_dot name)

-- a short name with a tilde in its stem, or without a small letter
abbrev pub is_alias : List ℕ → Bool
is_alias name = is_short_name name && (has_tilde (stem_of_name name (at_dot name)) || not (has_small_letter name))

-- The alias is the name in capitals, and not the name itself. A letter of another script that has no capital stays, and so
-- does one that has two, as the sharp s.
pub record IsInCapitals (alias name : List ℕ) : Type 0 where
  pub other : alias ≢ name
  pub letters : letter_count alias ≡ letter_count name
  pub same : str_to_uppercase alias ≡ str_to_uppercase name
  pub short : is_alias alias ≡ true
  pub capitals : has_small_letter alias ≡ false

-- A stem of an alias before its tilde: at most six letters, or two and four digits (vfat_create_shortname).
pub record IsAliasHead (head : List ℕ) : Type 0 where
  pub bytes : list_all is_short_byte head ≡ true
  pub dotless : list_any is_dot head ≡ false
  pub short : letter_count head ≤ 6

-- An extension of an alias.
pub record IsAliasExtension (extension : List ℕ) : Type 0 where
  pub bytes : list_all is_short_byte extension ≡ true
  pub dotless : list_any is_dot extension ≡ false
  pub short : is_part 3 extension ≡ true

-- each name that the driver makes for a longer one is an alias: the head, a tilde, a digit, and the extension
abbrev pub GeneratedAreAliases : Type 0
GeneratedAreAliases =
    (head extension : List ℕ) (digit : ℕ)
    → IsAliasHead head → is_ascii_digit digit ≡ true → IsAliasExtension extension
    → is_alias (head ++ 126 ∷ digit ∷ 46 ∷ extension) ≡ true

-- no name with a plus is an alias
abbrev pub PlusesAreNone : Type 0
PlusesAreNone = (front rest : List ℕ) → is_alias (front ++ 43 ∷ rest) ≡ false

-- no name with a boot counter is an alias
abbrev pub CountedAreNone : Type 0
CountedAreNone =
    (name base : List ℕ) (left done : ℕ) (suffix : Suffix) → IsCounted name base left done suffix → is_alias name ≡ false

-- worked examples: a tilde in either case, capitals, and names that are no aliases
pub record AliasExamples : Type 0 where
  pub numbered : is_alias (codes "FEDORA~1.EFI") ≡ true
  pub shown_small : is_alias (codes "fedora~1.efi") ≡ true
  pub capitals : is_alias (codes "FEDORA.EFI") ≡ true
  pub small : is_alias (codes "fedora.efi") ≡ false
  pub long : is_alias (codes "FEDORA-42~1.EFI") ≡ false
  pub counted : is_alias (codes "A~+3.EFI") ≡ false
