use Rattle.command_plans.proofs.Worded.{answered_words}
use Rattle.command_plans.specs.Prelude.{folders_of}
use Rattle.entry_commands.proofs.boot.plan_boot.Goals as goal

pub returns-clause-words : goal.returns-clause-words
returns-clause-words g c = answered_words (folders_of c.args.esp.now) c.boot-plan.result c.answer_or_refusal.result c.answer_or_refusal.ensures.plans c.boot-plan.ensures.words
