-- The kinds of parts, the names of their sections (UAPI Unified Kernel Image specification), and the order in which a
-- builder appends them.
use Rattle.std.specs.Prelude.{ℕ, Bool, List, [], ◌∷◌, Option, Some, None, codes, unwrap_or}
use Rattle.std.specs.List.{position_or_len}
use Rattle.std.specs.Map.{lookup}
use Rattle.uki_parts.specs.contracts.kind.PartKindPartialEq.TheImpl as comparison
use Rattle.uki_parts.specs.declared.kind.PartKind.{PartKind}
use Rattle.uki_parts.specs.declared.kind.PartKind.TheVariants as kinds

-- the kinds in append order, each with the section name that all its parts have; a user's own sections have none in
-- common
abbrev pub part_rows : List (PartKind × Option (List ℕ))
part_rows =
    (kinds.Osrel, Some (codes ".osrel"))
    ∷ (kinds.Cmdline, Some (codes ".cmdline"))
    ∷ (kinds.Dtb, Some (codes ".dtb"))
    ∷ (kinds.Uname, Some (codes ".uname"))
    ∷ (kinds.Splash, Some (codes ".splash"))
    ∷ (kinds.Pcrpkey, Some (codes ".pcrpkey"))
    ∷ (kinds.Initrd, Some (codes ".initrd"))
    ∷ (kinds.Ucode, Some (codes ".ucode"))
    ∷ (kinds.Extra, None)
    ∷ (kinds.Sbat, Some (codes ".sbat"))
    ∷ (kinds.Linux, Some (codes ".linux"))
    ∷ []

-- whether two kinds are one
abbrev pub is_kind : PartKind → PartKind → Bool
is_kind = comparison.ghosts.eq

-- the place of a kind in the append order
unfoldable pub append_place : PartKind → ℕ
append_place kind = position_or_len (λ row. is_kind kind row.0) part_rows

-- the section name that all parts of a kind have, where they have one
abbrev pub kind_name : PartKind → Option (List ℕ)
kind_name kind = unwrap_or (lookup (is_kind kind) part_rows) None
