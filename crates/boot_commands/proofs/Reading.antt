-- A command that is carried out after its reads.
use Rattle.std.proofs.Common.{◌≡◌, Result, sym, ap, ◌∙◌, subst}
use Rattle.boot_machine.specs.Prelude.{Files, IsIn, State, recovered_view, IsImage, IsFirm, Timeline, OnlyReads, recovered_views, seen}
use Rattle.command_plans.specs.Prelude.{Answer, deed_of_answer, Performs, end_of, answer_of_plan}
use Rattle.command_plans.specs.declared.outcome.Outcome.{Outcome}
use Rattle.command_plans.specs.declared.outcome.RunError.{RunError}
use Rattle.command_plans.specs.declared.plan.Plan.{Plan}
use Rattle.command_plans.proofs.Performed.{after_reads}
use Rattle.boot_commands.specs.Commands.{TidiesTo}
use Rattle.tool_words.specs.declared.command.One.{One}

module _ {D : Type 0} (time : Timeline D) (state : D → State) (old mid new : D) (plan : Plan) (answer : Answer) (result : Result Outcome RunError) where
  same_deed : OnlyReads time state old mid → answer_of_plan (seen (state old)) plan ≡ answer → deed_of_answer (answer_of_plan (seen (state mid)) plan) ≡ deed_of_answer answer
  same_deed reads is = ap (λ (s : State). deed_of_answer (answer_of_plan (seen s) plan)) reads.same ∙ ap deed_of_answer is

  pub performs_after : ((m : Files) → IsImage (state old) m → IsIn (recovered_view m) (recovered_views (state old)))
      → OnlyReads time state old mid → answer_of_plan (seen (state old)) plan ≡ answer → IsFirm (state old)
      → (IsFirm (state mid) → Performs time state end_of mid new (deed_of_answer (answer_of_plan (seen (state mid)) plan)) result) → Performs time state end_of old new (deed_of_answer answer) result
  performs_after sees reads is firm performs =
      after_reads time state old (deed_of_answer answer) mid new result sees reads
      (subst (λ d. Performs time state end_of mid new d result) (same_deed reads is) (performs (subst IsFirm (sym reads.same) firm)))

pub tidies_after : (result : Result Outcome RunError) (c : One) (old mid new : State) → mid ≡ old → TidiesTo result c mid new → TidiesTo result c old new
tidies_after result c old mid new same tidies = subst (λ (s : State). TidiesTo result c s new) same tidies
