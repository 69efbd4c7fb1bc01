use Rattle.command_plans.proofs.Worded.{said_words}
use Rattle.command_plans.specs.Prelude.{path_in}
use Rattle.image_commands.proofs.image.plan_image.Goals as goal

pub returns-clause-words : goal.returns-clause-words
returns-clause-words g c =
    said_words (path_in c.args.file.now) (λ text. text.items) c.measure_result-text.result c.text_or_refusal.result c.text_or_refusal.ensures.plans
    c.measure_result-text.ensures.words
