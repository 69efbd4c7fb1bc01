use Rattle.std.proofs.Common.{◌≡◌, map, drop}
use Rattle.command_plans.specs.Prelude.{each}
use Rattle.image_build.specs.Building.{extra_part, part_named, sources_of, wanted_parts, with_parts}
use Rattle.image_build.specs.Offers.{offered_parts}
use Rattle.image_build.proofs.build_words.parts_of.Given as goal

-- what is made, and behind it what the rows that are left make
abbrev pub invariant-loop-row : goal.invariant-loop-row
invariant-loop-row l =
    with_parts (map part_named l.parts.items) (offered_parts (drop l.row-index l.row-items) (map extra_part l.sections)) ≡ each sources_of (wanted_parts l.words l.sections)
