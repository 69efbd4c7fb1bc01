use Rattle.std.proofs.Common.{◌≡◌, ◌+◌, ◌*◌, [], length, ◌-◌}
use Rattle.pe_reader.specs.Prelude.{sections_of}
use Rattle.pe_reader.proofs.table.sections.Given as goal

abbrev pub invariant-loop-i : goal.invariant-loop-i
invariant-loop-i l =
    (length l.rest + 40 * l.i ≡ 40 * l.count) ×
    (sections_of l.size l.header_size (l.count - l.i) (l.place + 40 * l.i) l.sections.items l.rest
    ≡ sections_of l.size l.header_size l.count l.place [] l.table)
