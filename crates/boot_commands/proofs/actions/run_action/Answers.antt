use Rattle.boot_machine.specs.Prelude.{seen}
use Rattle.boot_machine.proofs.Seeing.{sees}
use Rattle.boot_commands.specs.Commands.{action_deed}
use Rattle.boot_commands.specs.Replies.{action_reply}
use Rattle.command_plans.proofs.Performed.{plan_failed}
use Rattle.boot_commands.proofs.Reading.{performs_after}
use Rattle.boot_commands.proofs.Temps.{spares_after, spares_same}
use Rattle.boot_commands.proofs.actions.run_action.Goals as goal

pub returns-in_err-plan-clause-performs : goal.returns-in_err-plan-clause-performs
returns-in_err-plan-clause-performs g c told firm =
    let old = c.args.machine.now in
    plan_failed g.M.Machine.time g.M.Machine.state old (action_deed (seen (g.M.Machine.state old)) c.args.action.now) c.plan_action.new.machine c.in_err-plan.field-0.0
    c.from_residual.result c.from_residual.ensures.0 c.from_residual.ensures.1
    (λ m image. sees (g.M.Machine.state old) (g.met.M.Machine.sound old told) firm m image) firm (c.plan_action.ensures.looks.reads told)

pub returns-clause-performs : goal.returns-clause-performs
returns-clause-performs g c told firm =
    let old = c.args.machine.now in
    performs_after g.M.Machine.time g.M.Machine.state old c.plan_action.new.machine c.carry_out.new.machine c.in_ok-plan.plan
    (action_reply (seen (g.M.Machine.state old)) c.args.action.now) c.carry_out.result
    (λ m image. sees (g.M.Machine.state old) (g.met.M.Machine.sound old told) firm m image)
    (c.plan_action.ensures.looks.reads told) (c.in_ok-plan.ensures.plans told).answer_is firm (c.carry_out.ensures.performs told)

pub returns-in_err-plan-clause-spares : goal.returns-in_err-plan-clause-spares
returns-in_err-plan-clause-spares g c told =
    let old = g.M.Machine.state c.args.machine.now in
    spares_same (action_reply (seen old) c.args.action.now) old (g.M.Machine.state c.plan_action.new.machine) (c.plan_action.ensures.looks.reads told).same

pub returns-clause-spares : goal.returns-clause-spares
returns-clause-spares g c told =
    spares_after c.in_ok-plan.plan (action_reply (seen (g.M.Machine.state c.args.machine.now)) c.args.action.now)
    (g.M.Machine.state c.args.machine.now) (g.M.Machine.state c.plan_action.new.machine) _ (c.plan_action.ensures.looks.reads told).same (c.in_ok-plan.ensures.plans told).answer_is
    (c.carry_out.ensures.spares told)
