use Rattle.command_plans.proofs.Worded.{said_words}
use Rattle.entry_commands.specs.Blessing.{reported_paths}
use Rattle.entry_commands.proofs.bless.plan_bless.Goals as goal

pub returns-in-Status-clause-words : goal.returns-in-Status-clause-words
returns-in-Status-clause-words g c = said_words (reported_paths c.args.word.now c.args.esp.now)
    (λ text. text.items) c.status.result c.text_or_refusal.result c.text_or_refusal.ensures.plans c.status.ensures.words
