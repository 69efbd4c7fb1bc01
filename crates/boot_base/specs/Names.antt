-- Names in eight bytes, as section headers hold them (Microsoft PE/COFF).
use Rattle.std.specs.Prelude.{ℕ, ◌==◌, ◌&&◌, List, [], ◌∷◌, ◌++◌, codes, nat_le, take, unwrap_or, position, if◌then◌else◌}
use Rattle.hex.specs.Hex.{encode_lower}

-- a name in eight bytes: those before the first NUL
abbrev pub short_name : List ℕ → List ℕ
short_name name = take (unwrap_or (position (λ b. b == 0) name) 8) name

-- a byte of a section's name as it is printed: printable ASCII but a space as it is, any other as `\x` and two digits
abbrev pub shown_byte : ℕ → List ℕ
shown_byte byte = if nat_le 0x21 byte && nat_le byte 0x7E then byte ∷ [] else codes "\\x" ++ encode_lower (byte ∷ [])
