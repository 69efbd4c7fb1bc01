use Rattle.boot_machine.specs.Prelude.{contents, seen}
use Rattle.image_build.specs.Building.{named_as}
use Rattle.image_build.proofs.Planning.{head_read, ok_weaker, plannable}
use Rattle.image_build.proofs.build.planned_build.Goals as goal

pub plan_parts-requires : goal.plan_parts-requires
plan_parts-requires g c = plannable c.requires.named.0 c.args.sources c.in_ok-built.built c.requires.named.1 c.in_ok-built.ensures.from

pub returns-clause-planned : goal.returns-clause-planned
returns-clause-planned g c =
    ok_weaker c.plan_parts.result
    (λ plan holds told.
    let view = seen (g.M.Machine.state c.args.machine.now) in
    holds view (c.in_ok-built.ensures.sizes told) (head_read view (contents view) (named_as c.args.sources) c.in_ok-built.built (c.in_ok-built.ensures.says told)))
    c.plan_parts.ensures.planned
