use Rattle.command_plans.proofs.Worded.{said_words}
use Rattle.command_plans.specs.Prelude.{each, path_in}
use Rattle.image_commands.specs.Calculating.{given_words, under_name}
use Rattle.image_commands.proofs.calculate.plan_calculate.Goals as goal

pub returns-clause-words : goal.returns-clause-words
returns-clause-words g c =
    said_words (each (under_name path_in) (given_words c.args.words.now)) (λ text. text.items) c.calculate_result-text.result c.text_or_refusal.result
    c.text_or_refusal.ensures.plans c.calculate_result-text.ensures.words
