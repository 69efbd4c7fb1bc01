use Rattle.std.proofs.Common.{ℕ, List, [], ◌∷◌, ◌||◌, length, map, sym, ap, subst, ◌∙◌, nat_eq}
use Rattle.std.proofs.lemmas.Result.{IfOk-weaker}
use Rattle.boot_base.specs.Paths.{Path}
use Rattle.command_plans.specs.Prelude.{Says}
use Rattle.tool_words.specs.declared.action.Action.{Action}
use Rattle.tool_words.specs.declared.action.Action.TheVariants as action
use Rattle.entry_commands.specs.Keeping.{would_text}
use Rattle.boot_commands.specs.Expansions.{keep_actions}
use Rattle.boot_commands.proofs.Expansions.{keep_removes, keep_told, made_so, refused_so}
use Rattle.boot_commands.proofs.expanding.keep_or_refusal.Goals as goal

pub returns-in_ok-tell-in-Ok-clause-actions : goal.returns-in_ok-tell-in-Ok-clause-actions
returns-in_ok-tell-in-Ok-clause-actions c meant said =
    let paths = c.in-Ok.paths.items in
    made_so (keep_actions c.args.dry_run) paths c.in_ok-tell-in-Ok.field-0.items meant
    (c.in_ok-tell-in-Ok.ensures.actions
    ∙ ap (λ (text : List ℕ). let told : List Action = action.Tell text ∷ [] in told) (c.in_ok-would_text-in-Ok.ensures ∙ ap would_text c.as_slice-in-Ok.ensures.value)
    ∙ keep_told c.args.dry_run paths
    (ap (λ (l : List Path). c.args.dry_run || nat_eq (length l) 0) (sym c.as_slice.ensures.value) ∙ sym c.is_only_told.ensures ∙ c.if-is_only_told.true))
    (subst (λ r. Says (λ paths. paths.items) r meant) c.in-Ok.is said)

pub returns-in_ok-removals-in-Ok-2-clause-actions : goal.returns-in_ok-removals-in-Ok-2-clause-actions
returns-in_ok-removals-in-Ok-2-clause-actions c meant said =
    let paths = c.in-Ok.paths.items in
    made_so (keep_actions c.args.dry_run) paths c.in_ok-removals-in-Ok-2.field-0.items meant
    (c.in_ok-removals-in-Ok-2.ensures ∙ ap (map action.Remove) c.as_slice-in-Ok-2.ensures.value
    ∙ keep_removes c.args.dry_run paths
    (ap (λ (l : List Path). c.args.dry_run || nat_eq (length l) 0) (sym c.as_slice.ensures.value) ∙ sym c.is_only_told.ensures ∙ c.if-is_only_told.false))
    (subst (λ r. Says (λ paths. paths.items) r meant) c.in-Ok.is said)

pub returns-in-Err-clause-actions : goal.returns-in-Err-clause-actions
returns-in-Err-clause-actions c =
    IfOk-weaker c.refuse.result _ _
    (λ refused refuses meant said. refused_so (keep_actions c.args.dry_run) c.in-Err.read_error refused.items meant refuses
    (subst (λ r. Says (λ paths. paths.items) r meant) c.in-Err.is said))
    c.refuse.ensures.refuses
