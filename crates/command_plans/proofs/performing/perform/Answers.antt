use Rattle.std.proofs.Common.{◌≡◌, true, ap, subst, ◌∙◌, arith}
use Rattle.boot_machine.specs.Prelude.{has, view, EachSince, on_channel, PrintsPart, seen}
use Rattle.boot_machine.proofs.Seeing.{sees}
use Rattle.install_steps.specs.Steps.{IsDone, NoNewTemp, Sees}
use Rattle.install_steps.proofs.KeepLemmas.{others_none, others_on, others_same}
use Rattle.command_plans.specs.Prelude.{channel_of, Drops, effect, making_length, own_temps}
use Rattle.command_plans.proofs.Performed.{settle_failed, change_failed, replied}
use Rattle.command_plans.proofs.Replies.{Replied, replied_drops, replied_files, replied_input, replied_rests, replied_temps}
use Rattle.command_plans.proofs.performing.perform.Goals as goal

pub returns-in_err-settle-clause-performs : goal.returns-in_err-settle-clause-performs
returns-in_err-settle-clause-performs g c told firm =
    let old = c.args.machine.now in
    let s = g.M.Machine.state old in
    settle_failed g.M.Machine.time g.M.Machine.state old c.args.plan.now.outcome (effect (seen s) c.args.plan.now.change) (channel_of c.args.plan.now.outcome) c.args.plan.now.text
    c.settle.new.machine c.from_residual.result c.from_residual.ensures.0 c.from_residual.ensures.1 (λ m image. sees (g.M.Machine.state old) (g.met.M.Machine.sound old told) firm m image)
    (c.in_err-settle.ensures.same told) (c.settle.ensures.firm told firm) (c.settle.ensures.moments told)

pub returns-in_err-apply-clause-performs : goal.returns-in_err-apply-clause-performs
returns-in_err-apply-clause-performs g c told firm =
    let old = c.args.machine.now in
    let s = g.M.Machine.state old in
    let same_view = ap view (c.settle.ensures.files told) in
    change_failed g.M.Machine.time g.M.Machine.state old c.args.plan.now.outcome (effect (seen s) c.args.plan.now.change) (channel_of c.args.plan.now.outcome) c.args.plan.now.text
    c.settle.new.machine c.apply.new.machine c.from_residual-in_err-apply.result c.from_residual-in_err-apply.ensures.0 c.from_residual-in_err-apply.ensures.1
    (λ m image. sees (g.M.Machine.state old) (g.met.M.Machine.sound old told) firm m image)
    (λ m image. g.met.M.Machine.counts_now c.apply.new.machine _ m told (c.apply.ensures.step told (c.settle.ensures.firm told firm)).moments.later image)
    (c.settle.ensures.alone.keeps told) (c.settle.ensures.files told) (c.settle.ensures.moments told)
    (c.apply.ensures.alone.keeps told) (c.apply.ensures.step told (c.settle.ensures.firm told firm)).firm
    (subst
    (λ v. EachSince g.M.Machine.time c.settle.new.machine c.apply.new.machine
    (Sees (g.M.Machine.state c.settle.new.machine)
    (effect v c.args.plan.now.change))) same_view (c.apply.ensures.step told (c.settle.ensures.firm told firm)).moments)

pub returns-in_err-apply-clause-taken : goal.returns-in_err-apply-clause-taken
returns-in_err-apply-clause-taken g c told =
    let same = ap (λ files. making_length (view files) c.args.plan.now.change) (c.settle.ensures.files told) in
    omega (arith, same, c.settle.ensures.taken told, c.apply.ensures.taken told)

pub returns-in-Done-clause-performs : goal.returns-in-Done-clause-performs
returns-in-Done-clause-performs g c told firm =
    let old = c.args.machine.now in
    let s = g.M.Machine.state old in
    let plan = c.args.plan.now in
    let to = channel_of plan.outcome in
    let same_view = ap view (c.settle.ensures.files told) in
    let firm_then = c.settle.ensures.firm told firm in
    let done = g.M.Machine.state c.apply.new.machine in
    replied g.M.Machine.time g.M.Machine.state old plan.outcome (effect (seen s) plan.change) to plan.text
    c.settle.new.machine c.apply.new.machine c.reply.new.machine c.reply.result
    (λ m image. sees s (g.met.M.Machine.sound old told) firm m image)
    (c.settle.ensures.alone.keeps told) (c.settle.ensures.files told) (c.settle.ensures.moments told)
    (c.apply.ensures.alone.keeps told)
    (subst (λ v. IsDone done (effect v plan.change)) same_view (c.in_ok-apply.ensures.done told firm_then))
    (subst
    (λ v. EachSince g.M.Machine.time c.settle.new.machine c.apply.new.machine
    (Sees (g.M.Machine.state c.settle.new.machine) (effect v plan.change))) same_view (c.apply.ensures.step told firm_then).moments)
    (subst (λ bytes. EachSince g.M.Machine.time c.apply.new.machine c.reply.new.machine (PrintsPart done (on_channel to bytes))) c.as_slice.ensures (c.reply.ensures.moments told))
    (subst (λ bytes. Replied plan.outcome to bytes done (g.M.Machine.state c.reply.new.machine) c.reply.result) c.as_slice.ensures (c.reply.ensures.printed told))

pub returns-in-Done-clause-drops : goal.returns-in-Done-clause-drops
returns-in-Done-clause-drops g c told =
    let change = c.args.plan.now.change in
    let done = g.M.Machine.state c.apply.new.machine in
    let drops = subst (λ files. Drops change files done.files) (c.settle.ensures.files told) (c.in_ok-apply.ensures.drops told) in
    replied_drops _ _ _ done _ c.reply.result (c.reply.ensures.printed told) (g.M.Machine.state c.args.machine.now) change drops

pub returns-in-Done-clause-input : goal.returns-in-Done-clause-input
returns-in-Done-clause-input g c told =
    replied_input _ _ _ (g.M.Machine.state c.apply.new.machine) _ c.reply.result (c.reply.ensures.printed told)
    ∙ ((c.apply.ensures.alone.keeps told).input ∙ (c.settle.ensures.alone.keeps told).input)

pub returns-in-Done-clause-rests : goal.returns-in-Done-clause-rests
returns-in-Done-clause-rests g c told =
    replied_rests _ _ _ (g.M.Machine.state c.apply.new.machine) _ c.reply.result (c.reply.ensures.printed told) (c.in_ok-apply.ensures.ready told).next.rested

pub returns-in-Done-clause-temps : goal.returns-in-Done-clause-temps
returns-in-Done-clause-temps g c told =
    let old = g.M.Machine.state c.args.machine.now in
    let done = g.M.Machine.state c.apply.new.machine in
    let none : NoNewTemp old done = λ q temp there. subst (λ files. has files q ≡ true) (c.settle.ensures.files told) ((c.in_ok-apply.ensures.ready told).temps q temp there) in
    replied_temps _ _ _ done _ c.reply.result (c.reply.ensures.printed told) old none

pub returns-in-Done-clause-taken : goal.returns-in-Done-clause-taken
returns-in-Done-clause-taken g c told =
    let same = ap (λ files. making_length (view files) c.args.plan.now.change) (c.settle.ensures.files told) in
    omega (arith, same, c.settle.ensures.taken told, c.apply.ensures.taken told, c.reply.ensures.taken told)

pub returns-in_err-settle-clause-others : goal.returns-in_err-settle-clause-others
returns-in_err-settle-clause-others g c told = others_none _ _ _ (c.settle.ensures.alone.temps told)

pub returns-in_err-apply-clause-others : goal.returns-in_err-apply-clause-others
returns-in_err-apply-clause-others g c told =
    others_on _ _ _ _ (others_none (own_temps c.args.plan.now.change) _ _ (c.settle.ensures.alone.temps told)) (c.apply.ensures.alone.temps told)

pub returns-in-Done-clause-others : goal.returns-in-Done-clause-others
returns-in-Done-clause-others g c told =
    let own = own_temps c.args.plan.now.change in
    let made = others_on own _ _ _ (others_none own _ _ (c.settle.ensures.alone.temps told)) (c.apply.ensures.alone.temps told) in
    others_on own _ _ _ made (others_same own _ _ (replied_files _ _ _ (g.M.Machine.state c.apply.new.machine) _ c.reply.result (c.reply.ensures.printed told)))
