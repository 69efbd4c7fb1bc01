use Rattle.std.proofs.Common.{◌≤◌, ◌*◌, ◌^◌, length, sum_by}
use Rattle.std.specs.List.{AllByRecursion}
use Rattle.pe_builder.specs.Layout.{FitsPart}
use Rattle.format_rows.proofs.refusal.part_sizes.Given as goal

abbrev pub invariant-loop-word : goal.invariant-loop-word
invariant-loop-word l = (length l.sizes.items ≤ 16) × (sum_by (λ p. p.length) l.sizes.items ≤ 2 ^ 40 * length l.sizes.items)
    × AllByRecursion FitsPart l.sizes.items
