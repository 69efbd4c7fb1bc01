use Rattle.std.proofs.Common.{◌∙◌}
use Rattle.image_writer.proofs.Lengths.{writing_within}
use Rattle.image_build.proofs.Planning.{written_plan}
use Rattle.image_build.proofs.build.writing_plan.Goals as goal

pub returns-clause-plans : goal.returns-clause-plans
returns-clause-plans c s measure sourced text_is = written_plan s c.args.build c.in_ok-of.field-0 measure c.from.result _ _ _ sourced c.in_ok-of.ensures.path (c.from.ensures ∙ text_is)

pub returns-clause-writes : goal.returns-clause-writes
returns-clause-writes c view sourced = writing_within c.args.build.image.plan c.args.build.image.sources view sourced
