use Rattle.std.proofs.Common.{◌≡◌, ◌≤◌, length, map, take, flat_map, All, sum_by}
use Rattle.boot_machine.specs.Prelude.{Files, contents}
use Rattle.stub_replay.specs.Parts.{HaveSizes, IsPlaced, files_length, items_of, named_bytes}
use Rattle.stub_replay.specs.Measured.{measured_names, section_items}
use Rattle.image_build.specs.Planning.{IsPlannedOn, section_bytes}
use Rattle.image_build.proofs.build_values.measured_parts.Given as goal

abbrev pub invariant-loop-name : goal.invariant-loop-name
invariant-loop-name l = record {
  items : (view : Files) (on : IsPlannedOn view l.plan)
      → items_of (map (named_bytes (contents view)) l.parts.items) ≡ flat_map
      (λ name. section_items name (section_bytes view l.plan on.own.in_place name)) (take l.name-index measured_names);
  whole : (view : Files) → IsPlannedOn view l.plan → HaveSizes (contents view) l.parts.items;
  short : (view : Files) (on : IsPlannedOn view l.plan) → files_length l.parts.items ≤ sum_by (λ name. length (section_bytes view l.plan on.own.in_place name)) (take l.name-index measured_names);
  placed : All (λ part. IsPlaced part.content) l.parts.items;
}
