use Rattle.std.proofs.Common.{string_bytes, nat_cmp}
use Rattle.std.specs.Cmp.Derive.Mapped.{lex_map}
use Rattle.std.specs.Cmp.Lexicographic.{slice_cmp}
use Rattle.pcr_values.proofs.phase_path.PhasePathOrd.cmp.Goals as goal

pub returns : goal.returns
returns c =
    let mapped = lex_map string_bytes (slice_cmp nat_cmp) c.self.inside.words.items c.other.inside.words.items in
    cc (mapped, c.self.view_is, c.other.view_is, c.as_slice.ensures.value, c.as_slice-2.ensures.value, c.cmp.ensures)
