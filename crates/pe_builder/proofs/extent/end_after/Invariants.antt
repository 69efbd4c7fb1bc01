use Rattle.std.proofs.Common.{◌≡◌, ◌<◌, ◌^◌, take, max, fold}
use Rattle.pe_builder.specs.Layout.{virtual_end}
use Rattle.pe_builder.proofs.extent.end_after.Given as goal

abbrev pub invariant-loop-section : goal.invariant-loop-section
invariant-loop-section l = (l.end ≡ fold (λ a s. max a (virtual_end s)) l.address (take l.section-index l.sections)) × (l.end < 2 ^ 33)
