use Rattle.std.proofs.Common.{rules, sym, not}
use Rattle.std.proofs.lemmas.List.Sorted.{IsPartitionPoint-from_clause}
use Rattle.uki_parts.specs.Kinds.{append_place}
use Rattle.uki_parts.specs.Parts.{part_place, is_after}
use Rattle.uki_parts.proofs.Ordered.{parted, parted_at}
use Rattle.uki_parts.proofs.part_list.place_for.Goals as goal

pub returns-clause-place : goal.returns-clause-place
returns-clause-place c =
    sym (parted_at (is_after c.args.kind) c.args.parts.now c.partition_point.result c.partition_point.ensures.bound
    (IsPartitionPoint-from_clause (λ part. not (is_after c.args.kind part)) _ _ c.partition_point.ensures.partitioned
    (parted part_place (append_place c.args.kind) c.args.parts.now c.requires) (λ a r q k. search rules)))
