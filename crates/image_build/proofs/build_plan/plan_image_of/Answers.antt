use Rattle.std.proofs.Common.{ℕ, List, subst}
use Rattle.uki_parts.specs.declared.part.Part.{Part}
use Rattle.image_build.specs.Imaged.{IsCountable}
use Rattle.image_build.proofs.build_plan.plan_image_of.Goals as goal

pub counted_plan-requires-clause-counted : goal.counted_plan-requires-clause-counted
counted_plan-requires-clause-counted c =
    subst (λ (l : List ℕ). IsCountable c.args.parts.items l) c.deref-2.ensures.value
    (subst (λ (l : List Part). IsCountable l c.deref-2.result.now) c.deref.ensures.value (c.is_countable.ensures.0 c.if-not-is_countable.false))
