use Rattle.std.proofs.Common.{◌≡◌, ◌++◌, length, map, take, flat_map}
use Rattle.list_json.specs.Sections.{facts_of}
use Rattle.image_commands.specs.Told.{first_line, section_lines}
use Rattle.image_commands.proofs.told.inspection_lines.Given as goal

abbrev pub invariant-loop-section : goal.invariant-loop-section
invariant-loop-section l =
    l.text.items ≡ first_line l.path (length l.sections) ++ flat_map section_lines (map facts_of (take l.section-index l.sections))
