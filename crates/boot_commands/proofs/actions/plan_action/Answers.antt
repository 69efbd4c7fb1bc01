use Rattle.std.proofs.Common.{rules, subst, sym}
use Rattle.boot_machine.specs.Prelude.{TakesAtMost, seen}
use Rattle.boot_machine.proofs.Reading.{looks_none}
use Rattle.tool_words.specs.declared.action.Action.{Action}
use Rattle.boot_commands.specs.Commands.{action_length}
use Rattle.boot_commands.proofs.actions.plan_action.Goals as goal

pub returns-in_err-plan_enter-in-Enter-clause-looks : goal.returns-in_err-plan_enter-in-Enter-clause-looks
returns-in_err-plan_enter-in-Enter-clause-looks g c = looks_none (g.met.M.Machine.only_now c.args.machine.now) (search rules)

pub returns-in_ok-plan_enter-in-Enter-clause-looks : goal.returns-in_ok-plan_enter-in-Enter-clause-looks
returns-in_ok-plan_enter-in-Enter-clause-looks g c = looks_none (g.met.M.Machine.only_now c.args.machine.now) (search rules)

pub returns-in_err-refusal_plan-in-Refuse-clause-looks : goal.returns-in_err-refusal_plan-in-Refuse-clause-looks
returns-in_err-refusal_plan-in-Refuse-clause-looks g c = looks_none (g.met.M.Machine.only_now c.args.machine.now) (search rules)

pub returns-in_ok-refusal_plan-in-Refuse-clause-looks : goal.returns-in_ok-refusal_plan-in-Refuse-clause-looks
returns-in_ok-refusal_plan-in-Refuse-clause-looks g c = looks_none (g.met.M.Machine.only_now c.args.machine.now) (search rules)

pub returns-in_err-plan_told-in-Tell-clause-looks : goal.returns-in_err-plan_told-in-Tell-clause-looks
returns-in_err-plan_told-in-Tell-clause-looks g c = looks_none (g.met.M.Machine.only_now c.args.machine.now) (search rules)

pub returns-in_ok-plan_told-in-Tell-clause-looks : goal.returns-in_ok-plan_told-in-Tell-clause-looks
returns-in_ok-plan_told-in-Tell-clause-looks g c = looks_none (g.met.M.Machine.only_now c.args.machine.now) (search rules)

pub returns-in-Put-clause-taken : goal.returns-in-Put-clause-taken
returns-in-Put-clause-taken g c told =
    let old = g.M.Machine.state c.args.machine.now in
    subst (λ (x : Action). TakesAtMost (action_length (seen old) x) (g.M.Machine.taken c.args.machine.now) (g.M.Machine.taken c.plan_put.new.machine)) (sym c.in-Put.is) (c.plan_put.ensures.taken told)
