use Rattle.std.proofs.Common.{[], ◌∷◌, subst}
use Rattle.std.proofs.lemmas.Result.{IfOk-weaker}
use Rattle.command_plans.specs.Prelude.{Says}
use Rattle.tool_words.specs.declared.action.Action.TheVariants as action
use Rattle.boot_commands.proofs.Expansions.{made_so, refused_so}
use Rattle.boot_commands.proofs.expanding.text_or_refusal.Goals as goal

pub returns-in_ok-tell-in-Ok-clause-actions : goal.returns-in_ok-tell-in-Ok-clause-actions
returns-in_ok-tell-in-Ok-clause-actions c meant said =
    made_so (λ text. action.Tell text ∷ []) c.in-Ok.text.items c.in_ok-tell-in-Ok.field-0.items meant c.in_ok-tell-in-Ok.ensures.actions
    (subst (λ r. Says (λ text. text.items) r meant) c.in-Ok.is said)

pub returns-in-Err-clause-actions : goal.returns-in-Err-clause-actions
returns-in-Err-clause-actions c =
    IfOk-weaker c.refuse.result _ _
    (λ refused refuses meant said. refused_so (λ text. action.Tell text ∷ []) c.in-Err.read_error refused.items meant refuses
    (subst (λ r. Says (λ text. text.items) r meant) c.in-Err.is said))
    c.refuse.ensures.refuses
