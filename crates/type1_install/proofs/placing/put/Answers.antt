use Rattle.std.proofs.Common.{◌≡◌, ◌∙◌, length, Ok, Some, ap, subst, sym, rules}
use Rattle.std.specs.FinMap.{get, insert}
use Rattle.boot_machine.specs.Prelude.{State, contents, seen}
use Rattle.boot_machine.proofs.Reading.{looks_on}
use Rattle.command_plans.specs.Prelude.{Answer, done_answer, bytes_at}
use Rattle.command_plans.proofs.WordErrors.{done_next}
use Rattle.type1_install.specs.Placing.{payload_text}
use Rattle.type1_install.proofs.placing.put.Goals as goal

pub returns-in_err-is_copied-clause-looks : goal.returns-in_err-is_copied-clause-looks
returns-in_err-is_copied-clause-looks g c = looks_on c.readable_size.ensures.looks c.is_copied.ensures.looks (search rules)

pub returns-in_err-standing_plan-clause-looks : goal.returns-in_err-standing_plan-clause-looks
returns-in_err-standing_plan-clause-looks g c = looks_on c.readable_size.ensures.looks c.is_copied.ensures.looks (search rules)

pub returns-then-branch-clause-looks : goal.returns-then-branch-clause-looks
returns-then-branch-clause-looks g c = looks_on c.readable_size.ensures.looks c.is_copied.ensures.looks (search rules)

pub returns-in_err-put_plan-clause-looks : goal.returns-in_err-put_plan-clause-looks
returns-in_err-put_plan-clause-looks g c = looks_on c.readable_size.ensures.looks c.is_copied.ensures.looks (search rules)

pub returns-clause-looks : goal.returns-clause-looks
returns-clause-looks g c = looks_on c.readable_size.ensures.looks c.is_copied.ensures.looks (search rules)

pub returns-then-branch-clause-plans : goal.returns-then-branch-clause-plans
returns-then-branch-clause-plans g c told =
    let old = g.M.Machine.state c.args.machine.now in
    let file = c.args.file.now in
    let target = c.args.target.now in
    let bytes = contents old.files file in
    let same = (c.readable_size.ensures.looks.reads told).same in
    let there : get (seen old) target ≡ Some bytes =
    subst (λ (s : State). get (seen s) target ≡ Some (contents s.files file)) same
    ((c.in_ok-is_copied.ensures.copied told
    (ap (λ (s : State). length (contents s.files file)) same ∙ c.in_ok-size.ensures.size told)).0 c.if-branch.true) in
    let plan = c.in_ok-standing_plan.ensures.plans old bytes there in (
      done_next (bytes_at (seen old) file) bytes
          (λ read. Ok (done_answer (insert (seen old) target read) (payload_text target)))
          (c.in_ok-size.ensures.file told)
          ∙ ap (λ (answer : Answer). Ok answer) (sym plan.answer_is),
      plan.can_make,
    )
