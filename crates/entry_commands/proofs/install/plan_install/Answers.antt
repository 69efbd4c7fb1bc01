use Rattle.command_plans.proofs.Worded.{answered_words}
use Rattle.std.proofs.Common.{option_map}
use Rattle.entry_commands.specs.Installing.{installation_of}
use Rattle.entry_commands.proofs.install.plan_install.Goals as goal

pub returns-clause-words : goal.returns-clause-words
returns-clause-words g c = answered_words (installation_of c.args.file.now c.args.name.now
    (option_map (λ text. text.now) c.args.tries) c.args.esp.now) c.install-plan.result c.answer_or_refusal.result c.answer_or_refusal.ensures.plans c.install-plan.ensures.words
