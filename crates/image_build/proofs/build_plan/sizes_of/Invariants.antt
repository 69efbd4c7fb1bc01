use Rattle.std.proofs.Common.{◌≡◌, take, map}
use Rattle.std.specs.List.{AllByRecursion}
use Rattle.pe_builder.specs.Layout.{FitsPart}
use Rattle.pe_builder.specs.Sizes.{size_of}
use Rattle.image_build.proofs.build_plan.sizes_of.Given as goal

abbrev pub invariant-loop-part : goal.invariant-loop-part
invariant-loop-part l = (l.sizes.items ≡ map size_of (take l.part-index l.parts)) × AllByRecursion FitsPart l.sizes.items
