use Rattle.std.proofs.Common.{refl, subst}
use Rattle.std.proofs.lemmas.Result.{IfOk-weaker}
use Rattle.command_plans.specs.Prelude.{Says}
use Rattle.boot_commands.proofs.Expansions.{made_so, refused_so}
use Rattle.boot_commands.proofs.expanding.install_or_refusal.Goals as goal

pub returns-in-Ok-clause-actions : goal.returns-in-Ok-clause-actions
returns-in-Ok-clause-actions c meant said =
    made_so (λ actions. actions) c.in-Ok.actions.items c.in-Ok.actions.items meant refl
    (subst (λ r. Says (λ actions. actions.items) r meant) c.in-Ok.is said)

pub returns-in-Err-clause-actions : goal.returns-in-Err-clause-actions
returns-in-Err-clause-actions c =
    IfOk-weaker c.refuse.result _ _
    (λ refused refuses meant said. refused_so (λ actions. actions) c.in-Err.read_error refused.items meant refuses
    (subst (λ r. Says (λ actions. actions.items) r meant) c.in-Err.is said))
    c.refuse.ensures.refuses
