use Rattle.std.proofs.Common.{◌≡◌, take, sum_by}
use Rattle.pe_builder.proofs.extent.total.Given as goal

abbrev pub invariant-loop-part : goal.invariant-loop-part
invariant-loop-part l = l.sum ≡ sum_by (λ p. p.length) (take l.part-index l.parts)
