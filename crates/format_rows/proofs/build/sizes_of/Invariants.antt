use Rattle.std.proofs.Common.{◌≡◌, ◌≤◌, ◌*◌, ◌^◌, length, map, sum_by, take}
use Rattle.std.specs.List.{AllByRecursion}
use Rattle.pe_builder.specs.Layout.{FitsPart}
use Rattle.format_rows.proofs.build.sizes_of.Given as goal

abbrev pub invariant-loop-i : goal.invariant-loop-i
invariant-loop-i l = (map length (map (λ c. c.items) (take l.i l.contents)) ≡ map (λ p. p.length) l.sizes.items)
    × (sum_by (λ p. p.length) l.sizes.items ≤ 2 ^ 40 * l.i) × AllByRecursion FitsPart l.sizes.items
