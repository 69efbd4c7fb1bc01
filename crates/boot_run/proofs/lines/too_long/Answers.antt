use Rattle.std.proofs.Common.{ℕ, List, subst}
use Rattle.boot_machine.specs.Prelude.{EachSince, on_channel, PrintsPart, recovered_now}
use Rattle.boot_machine.specs.declared.machine.Channel.TheVariants.{Err}
use Rattle.boot_run.specs.Lines.{unread_deed, too_long_text}
use Rattle.command_plans.specs.Prelude.{Performs, end_of}
use Rattle.boot_run.proofs.Acknowledging.{no_memory_yet, printed_not}
use Rattle.boot_machine.proofs.Seeing.{sees}
use Rattle.boot_run.proofs.lines.too_long.Goals as goal

pub returns-in_err-text-clause-performs : goal.returns-in_err-text-clause-performs
returns-in_err-text-clause-performs g c told firm =
    let old = c.args.machine.now in
    no_memory_yet g.M.Machine.time g.M.Machine.state old (unread_deed 3 too_long_text (recovered_now (g.M.Machine.state old))) c.from_residual.result
    c.from_residual.ensures.0 c.from_residual.ensures.1 firm
    (λ m o left. let now = g.met.M.Machine.only_now old m o told left in (sees (g.M.Machine.state old) (g.met.M.Machine.sound old told) firm m now.0, now.1))

pub returns-clause-performs : goal.returns-clause-performs
returns-clause-performs g c told firm =
    subst
    (λ (text : List ℕ). Performs g.M.Machine.time g.M.Machine.state end_of c.args.machine.now c.refuse_unread.new.machine
    (unread_deed 3 text (recovered_now (g.M.Machine.state c.args.machine.now))) c.refuse_unread.result)
    c.in_ok-text.ensures (c.refuse_unread.ensures.performs told firm)

pub returns-in_err-text-clause-moments : goal.returns-in_err-text-clause-moments
returns-in_err-text-clause-moments g c told =
    printed_not g.M.Machine.time g.M.Machine.state c.args.machine.now _ (λ m o left. g.met.M.Machine.only_now c.args.machine.now m o told left)

pub returns-clause-moments : goal.returns-clause-moments
returns-clause-moments g c told =
    subst
    (λ (text : List ℕ). EachSince g.M.Machine.time c.args.machine.now c.refuse_unread.new.machine
    (PrintsPart (g.M.Machine.state c.args.machine.now) (on_channel Err text)))
    c.in_ok-text.ensures (c.refuse_unread.ensures.moments told)
