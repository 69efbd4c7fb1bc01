use Rattle.std.proofs.Common.{◌≡◌, ◌≤◌, ◌^◌, ◌+◌, ◌*◌, take, sum_by, fold}
use Rattle.pe_builder.specs.Layout.{file_behind}
use Rattle.pe_builder.proofs.extent.length_after.Given as goal

abbrev pub invariant-loop-part : goal.invariant-loop-part
invariant-loop-part l = (l.end ≡ fold (file_behind l.head) l.stub_length (take l.part-index l.parts)) × (l.end ≤ 2 ^ 33 + sum_by (λ p. p.length) (take l.part-index l.parts) + 2 ^ 17 * l.part-index)
