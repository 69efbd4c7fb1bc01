use Rattle.command_plans.proofs.Worded.{answered_words}
use Rattle.loader_commands.specs.Setting.{conf_words}
use Rattle.boot_texts.specs.declared.conf_change.ConfKey.TheVariants.{Default}
use Rattle.loader_commands.proofs.set.plan_default.Goals as goal

pub returns-clause-words : goal.returns-clause-words
returns-clause-words g c = answered_words (conf_words Default c.args.pattern.now c.args.esp.now) c.set_plan-plan.result c.answer_or_refusal.result c.answer_or_refusal.ensures.plans c.set_plan-plan.ensures.words
