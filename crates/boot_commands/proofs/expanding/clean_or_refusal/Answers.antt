use Rattle.std.proofs.Common.{List, ℕ, [], ◌∷◌, ap, arith, sym, subst, ◌∙◌}
use Rattle.std.proofs.lemmas.Result.{IfOk-weaker}
use Rattle.std.proofs.lemmas.Bool.{eqb-false, eqb-true}
use Rattle.command_plans.specs.Prelude.{Says}
use Rattle.tool_words.specs.declared.action.Action.TheVariants as action
use Rattle.boot_commands.specs.Expansions.{clean_or_idle}
use Rattle.boot_commands.proofs.Expansions.{clean_done, clean_idle, made_so, refused_so}
use Rattle.boot_commands.proofs.expanding.clean_or_refusal.Goals as goal

pub returns-in_ok-tell-in-Ok-clause-actions : goal.returns-in_ok-tell-in-Ok-clause-actions
returns-in_ok-tell-in-Ok-clause-actions c meant said =
    made_so clean_or_idle c.in-Ok.actions.items c.in_ok-tell-in-Ok.field-0.items meant
    (c.in_ok-tell-in-Ok.ensures.actions
    ∙ ap (λ (t : List ℕ). action.Tell t ∷ []) c.in_ok-from_slice-in-Ok.ensures.items
    ∙ sym (clean_idle c.in-Ok.actions.items (omega (arith, c.in-Ok.actions.ok.0, eqb-true _ 0 (sym c.is_empty.ensures ∙ c.if-is_empty.true)))))
    (subst (λ r. Says (λ actions. actions.items) r meant) c.in-Ok.is said)

pub returns-in-Ok-2-clause-actions : goal.returns-in-Ok-2-clause-actions
returns-in-Ok-2-clause-actions c meant said =
    made_so clean_or_idle c.in-Ok.actions.items c.in-Ok.actions.items meant
    (clean_done c.in-Ok.actions.items (λ none. eqb-false _ 0 (sym c.is_empty.ensures ∙ c.if-is_empty.false) (omega (arith, c.in-Ok.actions.ok.0, none))))
    (subst (λ r. Says (λ actions. actions.items) r meant) c.in-Ok.is said)

pub returns-in-Err-clause-actions : goal.returns-in-Err-clause-actions
returns-in-Err-clause-actions c =
    IfOk-weaker c.refuse.result _ _
    (λ refused refuses meant said. refused_so clean_or_idle c.in-Err.read_error refused.items meant refuses
    (subst (λ r. Says (λ actions. actions.items) r meant) c.in-Err.is said))
    c.refuse.ensures.refuses
