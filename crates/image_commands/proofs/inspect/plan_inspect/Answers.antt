use Rattle.command_plans.proofs.Worded.{said_words}
use Rattle.command_plans.specs.Prelude.{path_in}
use Rattle.image_commands.proofs.inspect.plan_inspect.Goals as goal

pub returns-clause-words : goal.returns-clause-words
returns-clause-words g c =
    said_words (path_in c.args.file.now) (λ text. text.items) c.inspect_result-text.result c.text_or_refusal.result c.text_or_refusal.ensures.plans
    c.inspect_result-text.ensures.words
