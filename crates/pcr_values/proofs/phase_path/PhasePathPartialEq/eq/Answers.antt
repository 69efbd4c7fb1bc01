use Rattle.std.proofs.Common.{string_bytes, bytes_eq}
use Rattle.std.specs.Cmp.Derive.Mapped.{pointwise-map}
use Rattle.pcr_values.proofs.phase_path.PhasePathPartialEq.eq.Goals as goal

pub returns : goal.returns
returns c =
    let mapped = pointwise-map string_bytes bytes_eq c.self.inside.words.items c.other.inside.words.items in
    cc (mapped, c.self.view_is, c.other.view_is, c.as_slice.ensures.value, c.as_slice-2.ensures.value, c.eq.ensures)
