-- The facts of a plan hold in one way.
use Rattle.std.specs.Prelude.{bytes_eq}
use Rattle.std.proofs.Props.{props}
use Rattle.std.proofs.lemmas.Map.Keys.{IsDistinct-prop}
use Rattle.command_plans.specs.Makeable.{IsMakeable}
use Rattle.command_plans.specs.declared.plan.Change.{Change}
use Rattle.command_plans.specs.declared.plan.Change.TheVariants.{Nothing, Remove, Leftovers, Write, Put, Copy, Move}

-- a change can be made in at most one way
pub is_makeable_prop : (change : Change) → IsProp (IsMakeable change)
is_makeable_prop Nothing = Prim.hlevel props
is_makeable_prop (Remove path gone) = Prim.hlevel props
is_makeable_prop (Leftovers temps) = IsDistinct-prop bytes_eq temps.items
is_makeable_prop (Write image sources target) = Prim.hlevel props
is_makeable_prop (Put target bytes) = Prim.hlevel props
is_makeable_prop (Copy from target gone) = Prim.hlevel props
is_makeable_prop (Move from to intent gone exists) = Prim.hlevel props
