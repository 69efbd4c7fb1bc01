use Rattle.std.proofs.Common.{subst, sym}
use Rattle.boot_machine.specs.Prelude.{Files, State, seen}
use Rattle.boot_machine.proofs.Seeing.{sees}
use Rattle.boot_commands.specs.Commands.{LeavesTidied, one_deed}
use Rattle.boot_commands.specs.Replies.{one_reply}
use Rattle.command_plans.specs.Prelude.{Drops}
use Rattle.command_plans.proofs.Performed.{plan_failed}
use Rattle.boot_commands.proofs.Reading.{performs_after, tidies_after}
use Rattle.boot_commands.proofs.Temps.{spares_after, spares_same, there_after, there_same}
use Rattle.boot_commands.proofs.Tidies.{tidies_unplanned}
use Rattle.boot_commands.proofs.ones.run_one.Goals as goal

pub returns-in_err-plan-clause-performs : goal.returns-in_err-plan-clause-performs
returns-in_err-plan-clause-performs g c told firm =
    let old = c.args.machine.now in
    plan_failed g.M.Machine.time g.M.Machine.state old (one_deed (seen (g.M.Machine.state old)) c.args.command.now) c.plan_one.new.machine c.in_err-plan.field-0.0
    c.from_residual.result c.from_residual.ensures.0 c.from_residual.ensures.1
    (λ m image. sees (g.M.Machine.state old) (g.met.M.Machine.sound old told) firm m image) firm (c.plan_one.ensures.looks.reads told)

pub returns-in_err-plan-clause-tidies : goal.returns-in_err-plan-clause-tidies
returns-in_err-plan-clause-tidies g c told =
    tidies_unplanned c.from_residual.result c.in_err-plan.field-0.0 c.args.command.now (g.M.Machine.state c.args.machine.now)
    (g.M.Machine.state c.plan_one.new.machine) c.from_residual.ensures.0 c.from_residual.ensures.1
    (c.plan_one.ensures.looks.reads told).same

pub returns-clause-performs : goal.returns-clause-performs
returns-clause-performs g c told firm =
    let old = c.args.machine.now in
    performs_after g.M.Machine.time g.M.Machine.state old c.plan_one.new.machine c.carry_out.new.machine c.in_ok-plan.plan
    (one_reply (seen (g.M.Machine.state old)) c.args.command.now) c.carry_out.result
    (λ m image. sees (g.M.Machine.state old) (g.met.M.Machine.sound old told) firm m image)
    (c.plan_one.ensures.looks.reads told) (c.in_ok-plan.ensures.plans told).answer_is firm (c.carry_out.ensures.performs told)

pub returns-clause-tidies : goal.returns-clause-tidies
returns-clause-tidies g c told =
    let reads = c.plan_one.ensures.looks.reads told in
    tidies_after c.carry_out.result c.args.command.now (g.M.Machine.state c.args.machine.now) (g.M.Machine.state c.plan_one.new.machine) (g.M.Machine.state c.carry_out.new.machine) reads.same
    (c.carry_out.ensures.tidies told c.args.command.now (subst
    (λ (s : State). (files : Files) → Drops c.in_ok-plan.plan.change s.files files → LeavesTidied c.args.command.now files) (sym reads.same) (c.in_ok-plan.ensures.tidies told)))

pub returns-in_err-plan-clause-spares : goal.returns-in_err-plan-clause-spares
returns-in_err-plan-clause-spares g c told =
    let old = g.M.Machine.state c.args.machine.now in
    spares_same (one_reply (seen old) c.args.command.now) old (g.M.Machine.state c.plan_one.new.machine) (c.plan_one.ensures.looks.reads told).same

pub returns-clause-spares : goal.returns-clause-spares
returns-clause-spares g c told =
    spares_after c.in_ok-plan.plan (one_reply (seen (g.M.Machine.state c.args.machine.now)) c.args.command.now)
    (g.M.Machine.state c.args.machine.now) (g.M.Machine.state c.plan_one.new.machine) _ (c.plan_one.ensures.looks.reads told).same (c.in_ok-plan.ensures.plans told).answer_is
    (c.carry_out.ensures.spares told)

pub returns-in_err-plan-clause-there : goal.returns-in_err-plan-clause-there
returns-in_err-plan-clause-there g c told = there_same c.args.command.now _ _ (c.plan_one.ensures.looks.reads told).same

pub returns-clause-there : goal.returns-clause-there
returns-clause-there g c told =
    there_after c.args.command.now _ (g.M.Machine.state c.args.machine.now) (g.M.Machine.state c.plan_one.new.machine) _
    (c.plan_one.ensures.looks.reads told).same (c.in_ok-plan.ensures.owns told) (c.carry_out.ensures.others told)
