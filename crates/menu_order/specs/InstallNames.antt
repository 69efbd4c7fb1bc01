-- Names that an entry may be installed under (profile).
use Rattle.std.specs.Prelude.{ℕ, ◌==◌, Bool, not, ◌&&◌, ◌||◌, List, ◌++◌, codes, length, nat_eq, nat_le, is_none}
use Rattle.std.specs.Char.{is_ascii_alphanumeric}
use Rattle.std.specs.List.{list_all, list_any, starts_with}
use Rattle.menu_order.specs.Counter.{suffix_text}
use Rattle.menu_order.specs.Splits.{split_of}
use Rattle.menu_order.specs.declared.counted.Suffix.{Suffix}

-- a byte of a name: a letter or digit of ASCII, or one of . _ ~ ^ + -
abbrev pub is_entry_name_byte : ℕ → Bool
is_entry_name_byte byte = is_ascii_alphanumeric byte || list_any (λ other. other == byte) (codes "._~^+-")

-- 1 to 128 such bytes, and no dot first
abbrev pub is_name_text : List ℕ → Bool
is_name_text name =
    not (length name == 0) && nat_le (length name) 128 && list_all is_entry_name_byte name
    && not (starts_with nat_eq name (codes "."))

-- a name that an entry of this suffix may be installed under: with the suffix it has no boot counter
abbrev pub is_install_name : Suffix → List ℕ → Bool
is_install_name suffix name = is_name_text name && is_none (split_of (name ++ suffix_text suffix))
