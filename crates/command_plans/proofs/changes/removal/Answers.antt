use Rattle.std.proofs.Common.{◌∙◌}
use Rattle.std.proofs.lemmas.Result.{IfOk-weaker}
use Rattle.command_plans.proofs.changes.removal.Goals as goal

pub returns-in-Some : goal.returns-in-Some
returns-in-Some c = IfOk-weaker c.removal_there.result _ _ (λ plan plans s is. plans s c.in-Some.field-0 (is ∙ c.in-Some.is)) c.removal_there.ensures
