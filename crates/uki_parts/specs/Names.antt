-- The names of the sections of an image (Microsoft PE/COFF).
use Rattle.std.specs.Prelude.{ℕ, ◌==◌, ◌-◌, Bool, not, ◌&&◌, List, ◌++◌, length, replicate, nat_le, bytes_eq, codes, Option, Some, None, option_map, if◌then◌else◌}
use Rattle.std.specs.List.{list_all}
use Rattle.boot_base.specs.Names.{short_name}
use Rattle.uki_parts.specs.declared.kind.PartKind.{PartKind}
use Rattle.uki_parts.specs.Kinds.{kind_name}
use Rattle.uki_parts.specs.declared.name.SectionName.{SectionName}

-- the eight bytes of a section header that hold the name
abbrev pub padded_bytes : SectionName → List ℕ
padded_bytes name = name.padded

-- the name itself: the bytes before the first NUL
abbrev pub name_bytes : SectionName → List ℕ
name_bytes name = short_name (padded_bytes name)

-- the name with at most eight bytes, filled up with NUL
abbrev pub padded_name : List ℕ → SectionName
padded_name bytes = record { padded = bytes ++ replicate (8 - length bytes) 0 }

-- a byte that a name may hold: printable ASCII but a space and `:`
abbrev pub is_section_name_byte : ℕ → Bool
is_section_name_byte byte = nat_le 0x21 byte && nat_le byte 0x7E && not (byte == 58)

-- a name that a user may give: 1 to 8 such bytes, and not `.sbat`, whose part is merged from several sources
abbrev pub is_section_name : List ℕ → Bool
is_section_name text =
    nat_le 1 (length text) && nat_le (length text) 8 && list_all is_section_name_byte text
    && not (bytes_eq text (codes ".sbat"))

-- the name that a text is, where it is one
abbrev pub read_name : List ℕ → Option SectionName
read_name text = if is_section_name text then Some (padded_name text) else None

-- the name that all parts of a kind have, where they have one
abbrev pub fixed_name : PartKind → Option SectionName
fixed_name kind = option_map padded_name (kind_name kind)
