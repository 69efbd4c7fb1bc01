-- Lists of parts in append order.
use Rattle.std.specs.Prelude.{ℕ, ◌<◌, ◌==◌, Bool, List, ◌∷◌, ◌++◌, filter, nat_le, nat_lt, if◌then◌else◌}
use Rattle.uki_parts.specs.declared.kind.PartKind.{PartKind}
use Rattle.uki_parts.specs.declared.part.Part.{Part}
use Rattle.uki_parts.specs.Kinds.{append_place}

-- the place of a part's kind in the append order
abbrev pub part_place : Part → ℕ
part_place part = append_place part.kind

-- a part that adds a section, as one without bytes doesn't
abbrev pub HasBytes : Part → Type 0
HasBytes part = 0 < part.length

-- the part is of that kind, or of one that is appended before it
abbrev pub is_up_to : PartKind → Part → Bool
is_up_to kind part = nat_le (part_place part) (append_place kind)

-- the part is of a kind that is appended after that one
abbrev pub is_after : PartKind → Part → Bool
is_after kind part = nat_lt (append_place kind) (part_place part)

-- the list with a part added: behind those of its kind and of the kinds before it, and before the rest; an empty part
-- isn't added
abbrev pub with_part : Part → List Part → List Part
with_part part parts =
    if part.length == 0 then parts else filter (is_up_to part.kind) parts ++ part ∷ filter (is_after part.kind) parts

-- the parts of that kind, in order
abbrev pub parts_of_kind : PartKind → List Part → List Part
parts_of_kind kind parts = filter (λ part. part_place part == append_place kind) parts
