use Rattle.command_plans.proofs.Worded.{said_words}
use Rattle.loader_commands.specs.Places.{loader_paths}
use Rattle.loader_commands.proofs.show.plan_show.Goals as goal

pub returns-clause-words : goal.returns-clause-words
returns-clause-words g c = said_words (loader_paths c.args.esp.now)
    (λ text. text.items) c.show_result-text.result c.text_or_refusal.result c.text_or_refusal.ensures.plans c.show_result-text.ensures.words
