use Rattle.command_plans.proofs.Worded.{said_words}
use Rattle.command_plans.specs.Prelude.{folders_of}
use Rattle.entry_commands.proofs.list.plan_list.Goals as goal

pub returns-clause-words : goal.returns-clause-words
returns-clause-words g c = said_words (folders_of c.args.esp.now)
    (λ text. text.items) c.list_result-text.result c.text_or_refusal.result c.text_or_refusal.ensures.plans c.list_result-text.ensures.words
