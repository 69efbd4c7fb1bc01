use Rattle.std.proofs.Common.{◌≡◌, ◌-◌, ◌^◌, min, take, sum_by}
use Rattle.image_build.proofs.build_plan.total_bytes.Given as goal

abbrev pub invariant-loop-part : goal.invariant-loop-part
invariant-loop-part l = l.total ≡ min (sum_by (λ part. part.length) (take l.part-index l.parts)) (2 ^ 64 - 1)
