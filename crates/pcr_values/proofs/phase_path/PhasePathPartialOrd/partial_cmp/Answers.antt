use Rattle.std.proofs.Common.{string_bytes}
use Rattle.std.specs.Cmp.Derive.Mapped.{slice_partial_cmp-map}
use Rattle.std.specs.Cmp.Lexicographic.{slice_cmp}
use Rattle.std.specs.Ordering.{as_partial_cmp, nat_cmp}
use Rattle.pcr_values.proofs.phase_path.PhasePathPartialOrd.partial_cmp.Goals as goal

pub returns : goal.returns
returns c =
    let mapped = slice_partial_cmp-map string_bytes (as_partial_cmp (slice_cmp nat_cmp)) c.self.inside.words.items c.other.inside.words.items in
    cc (mapped, c.self.view_is, c.other.view_is, c.as_slice.ensures.value, c.as_slice-2.ensures.value, c.partial_cmp.ensures)
