use Rattle.std.proofs.Common.{◌≡◌, map, take, Ok}
use Rattle.image_build.specs.Building.{extra_part, part_named, with_parts}
use Rattle.image_build.proofs.build_words.append_sections.Given as goal

abbrev pub invariant-loop-section : goal.invariant-loop-section
invariant-loop-section l = with_parts (map part_named l.initial.parts.items) (map extra_part (take l.section-index l.sections)) ≡ Ok (map part_named l.parts.items)
