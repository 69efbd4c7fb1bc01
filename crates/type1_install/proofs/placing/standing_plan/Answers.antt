use Rattle.std.proofs.Common.{ℕ, List, sym, ap, ◌∙◌}
use Rattle.boot_machine.specs.Prelude.{Files, seen}
use Rattle.command_plans.specs.Prelude.{done_answer}
use Rattle.type1_install.specs.Placing.{payload_text}
use Rattle.type1_install.proofs.SameBytes.{insert_same}
use Rattle.type1_install.proofs.placing.standing_plan.Goals as goal

pub returns-clause-plans : goal.returns-clause-plans
returns-clause-plans c s bytes there =
    let target = c.args.target.now in
    record {
      answer_is =
          ap (λ (text : List ℕ). done_answer (seen s) text) c.in_ok-payload_text.ensures
          ∙ ap (λ (view : Files). done_answer view (payload_text target)) (sym (insert_same (seen s) target bytes there));
      can_make = tt;
    }
