use Rattle.std.proofs.Common.{◌≡◌, ◌++◌, filter}
use Rattle.image_build.specs.Imaged.{is_filled}
use Rattle.image_build.proofs.build_plan.list_of_parts.Given as goal

abbrev pub invariant-loop-part : goal.invariant-loop-part
invariant-loop-part l = record {
  left : l.fn.parts.items ≡ l.yielded ++ l.part-iterator.rest.items;
  list : l.list ≡ filter is_filled l.yielded;
}
