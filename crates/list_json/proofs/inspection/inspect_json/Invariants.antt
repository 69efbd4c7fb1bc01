use Rattle.std.proofs.Common.{◌≡◌, map, take}
use Rattle.serde_json.specs.View.{view}
use Rattle.list_json.specs.Sections.{facts_of, section_data}
use Rattle.list_json.proofs.inspection.inspect_json.Given as goal

abbrev pub invariant-loop-section : goal.invariant-loop-section
invariant-loop-section l = map view l.values.items ≡ map section_data (map facts_of (take l.section-index l.sections))
