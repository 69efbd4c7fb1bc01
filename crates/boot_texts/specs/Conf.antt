-- What loader.conf says, and what may be written into it.
use Rattle.std.specs.Prelude.{◌≡◌, ◌≤◌, ℕ, ◌==◌, Bool, not, ◌&&◌, ◌||◌, true, false, List, [], ◌∷◌, length, Option, Some, None, bytes_eq, codes, if◌then◌else◌, nat_le, nat_lt}
use Rattle.std.specs.List.{list_all}
use Rattle.std.specs.Char.{is_ascii_digit, is_ascii_graphic}
use Rattle.boot_texts.specs.EntryLines.{entry_value}
use Rattle.boot_texts.specs.PatternDecisions.{is_pattern_text}
use Rattle.boot_texts.specs.Patterns.{IsPattern}
use Rattle.boot_texts.specs.declared.conf.LoaderConf.{LoaderConf}
use Rattle.boot_texts.specs.declared.conf_change.ConfKey.{ConfKey}
use Rattle.boot_texts.specs.declared.conf_change.ConfKey.TheVariants.{Default, Timeout}

-- the value where it passes
abbrev pub value_if : (List ℕ → Bool) → Option (List ℕ) → Option (List ℕ)
value_if test None = None
value_if test (Some value) = if test value then Some value else None

-- the value begins with `@`, and names no entry but a variable of the firmware
abbrev pub names_variable : List ℕ → Bool
names_variable [] = false
names_variable (first ∷ _) = first == 64

-- the value doesn't begin with `@`
abbrev pub names_no_variable : List ℕ → Bool
names_no_variable value = not (names_variable value)

-- 1 to 9 digits
abbrev pub is_seconds : List ℕ → Bool
is_seconds value = if length value == 0 || nat_lt 9 (length value) then false else list_all is_ascii_digit value

-- 1 to 9 digits, `menu-force` or `menu-hidden`
abbrev pub is_timeout : List ℕ → Bool
is_timeout value = is_seconds value || bytes_eq value (codes "menu-force") || bytes_eq value (codes "menu-hidden")

-- what a text says of its two keys: the value of the last line that has one, where it counts
abbrev pub conf_default : List ℕ → Option (List ℕ)
conf_default text = value_if names_no_variable (entry_value (codes "default") text)

-- the value of the last line that has `timeout`, where it is one that counts
abbrev pub conf_timeout : List ℕ → Option (List ℕ)
conf_timeout text = value_if is_timeout (entry_value (codes "timeout") text)

-- what a text says of both keys
abbrev pub conf_of : List ℕ → LoaderConf
conf_of text = record { default = conf_default text; timeout = conf_timeout text }

-- ---- keys

-- how a key is written
abbrev pub conf_key_name : ConfKey → List ℕ
conf_key_name Default = codes "default"
conf_key_name Timeout = codes "timeout"

-- the other of the two keys
abbrev pub other_conf_key : ConfKey → ConfKey
other_conf_key Default = Timeout
other_conf_key Timeout = Default

-- what was read for a key
abbrev pub conf_value : ConfKey → LoaderConf → Option (List ℕ)
conf_value Default conf = conf.default
conf_value Timeout conf = conf.timeout

-- ---- what may be written

-- a pattern that may be the default: 1 to 255 bytes from `!` to `~`, no `@` in front, and a list of items
pub record IsDefaultPattern (value : List ℕ) : Type 0 where
  pub there : 1 ≤ length value
  pub short : length value ≤ 255
  pub graphic : list_all is_ascii_graphic value ≡ true
  pub no_variable : names_variable value ≡ false
  pub items : IsPattern value

-- a value that may be written for the key
abbrev pub IsConfValue : ConfKey → List ℕ → Type 0
IsConfValue Default value = IsDefaultPattern value
IsConfValue Timeout value = is_timeout value ≡ true

-- ---- the same as functions

-- whether a value is a pattern that may be the default
unfoldable pub may_be_default : List ℕ → Bool
may_be_default value =
    not (length value == 0) && nat_le (length value) 255 && list_all is_ascii_graphic value
    && not (names_variable value) && is_pattern_text value

-- whether a value may be written for the key
abbrev pub may_be_value : ConfKey → List ℕ → Bool
may_be_value Default value = may_be_default value
may_be_value Timeout value = is_timeout value
