use Rattle.std.proofs.Common.{◌++◌, ap, ◌∙◌}
use Rattle.command_plans.proofs.Each.{one_over}
use Rattle.image_build.proofs.Listed.{added}
use Rattle.image_build.proofs.build_plan.list_of_parts.Goals as goal

pub loop-part-preserved : goal.loop-part-preserved
loop-part-preserved c =
    let before = c.loop-part.invariant in
    let seen = c.loop-part.yielded in
    let rest = c.next.new.self.rest.items in
    record {
      left = before.left ∙ one_over seen c.in-Some.part c.loop-part.part-iterator.rest.items rest c.in-Some.ensures.steps.0;
      list =
          added seen c.in-Some.part rest c.args.parts.items c.loop-part.list c.add.new.self
          (before.left ∙ ap (λ l. seen ++ l) c.in-Some.ensures.steps.0) c.requires before.list c.in_ok-add.ensures.ok;
    }
