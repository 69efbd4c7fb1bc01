use Rattle.std.proofs.Common.{refl}
use Rattle.boot_machine.specs.Prelude.{seen}
use Rattle.command_plans.specs.Prelude.{deed_of_answer, answer_of_plan}
use Rattle.command_plans.proofs.Performed.{done_by, stopped_by}
use Rattle.command_plans.proofs.Sparing.{spares}
use Rattle.boot_commands.proofs.Tidies.{tidies_failed}
use Rattle.boot_commands.proofs.carrying.carry_out.Goals as goal

pub returns-in_err-result-clause-performs : goal.returns-in_err-result-clause-performs
returns-in_err-result-clause-performs g c told firm =
    let old = c.args.machine.now in
    stopped_by g.M.Machine.time g.M.Machine.state old c.perform-result.new.machine
    (deed_of_answer (answer_of_plan (seen (g.M.Machine.state old)) c.args.plan)) c.in_err-result.field-0.0 c.from_residual.result
    c.from_residual.ensures.0 c.from_residual.ensures.1 (c.in_err-result.ensures.performs told firm)

pub returns-clause-performs : goal.returns-clause-performs
returns-clause-performs g c told firm =
    let old = c.args.machine.now in
    done_by g.M.Machine.time g.M.Machine.state old c.perform-result.new.machine
    (deed_of_answer (answer_of_plan (seen (g.M.Machine.state old)) c.args.plan)) c.in_ok-result.field-0 (c.in_ok-result.ensures.performs told firm)

pub returns-in_err-result-clause-tidies : goal.returns-in_err-result-clause-tidies
returns-in_err-result-clause-tidies g c told command so =
    let old = g.M.Machine.state c.args.machine.now in
    tidies_failed c.from_residual.result c.in_err-result.field-0.0 c.args.plan.change command old old (g.M.Machine.state c.perform-result.new.machine)
    c.from_residual.ensures.0 c.from_residual.ensures.1 refl so (c.in_err-result.ensures.drops told)

pub returns-clause-tidies : goal.returns-clause-tidies
returns-clause-tidies g c told command so = so _ (c.in_ok-result.ensures.drops told)

pub returns-in_err-result-clause-spares : goal.returns-in_err-result-clause-spares
returns-in_err-result-clause-spares g c told = spares (seen (g.M.Machine.state c.args.machine.now)) _ _ c.args.plan (c.perform-result.ensures.others told)

pub returns-clause-spares : goal.returns-clause-spares
returns-clause-spares g c told = spares (seen (g.M.Machine.state c.args.machine.now)) _ _ c.args.plan (c.perform-result.ensures.others told)
