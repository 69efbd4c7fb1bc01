use Rattle.std.proofs.Common.{◌≡◌, take, Ok}
use Rattle.image_build.specs.Building.{section_of}
use Rattle.command_plans.specs.Prelude.{each}
use Rattle.image_build.proofs.build_words.sections_of.Given as goal

abbrev pub invariant-loop-value : goal.invariant-loop-value
invariant-loop-value l = each section_of (take l.value-index l.values) ≡ Ok l.sections.items
