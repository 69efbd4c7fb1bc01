use Rattle.std.proofs.Common.{◌≡◌, ℕ, take, refl, subst}
use Rattle.boot_machine.specs.Prelude.{EachSince, on_channel, with_printed, PrintsPart}
use Rattle.boot_machine.specs.declared.machine.Channel.{Channel}
use Rattle.command_plans.proofs.Exits.{match_err}
use Rattle.command_plans.proofs.performing.reply.Goals as goal

pub returns-clause-printed : goal.returns-clause-printed
returns-clause-printed g c told = (
  refl,
  subst
      (λ (to : Channel). g.M.Machine.state c.print_all.new.machine ≡ with_printed to c.args.text.now
      (g.M.Machine.state c.args.machine.now)) c.channel.ensures (c.in_ok-print_all.ensures.done told),
)

pub returns-clause-moments : goal.returns-clause-moments
returns-clause-moments g c told =
    subst
    (λ (to : Channel). EachSince g.M.Machine.time c.args.machine.now c.print_all.new.machine
    (PrintsPart (g.M.Machine.state c.args.machine.now) (on_channel to c.args.text.now)))
    c.channel.ensures (c.print_all.ensures.moments told)

pub returns-clause-counts : goal.returns-clause-counts
returns-clause-counts g c = c.in_ok-print_all.ensures.counts

pub returns-in_err-print_all-clause-printed : goal.returns-in_err-print_all-clause-printed
returns-in_err-print_all-clause-printed g c told =
    match_err c.from_residual.result _ _ _ c.from_residual.ensures.1 (
      refl,
      subst
          (λ (to : Channel). (k : ℕ) ×
          (g.M.Machine.state c.print_all.new.machine ≡ with_printed to (take k c.args.text.now)
          (g.M.Machine.state c.args.machine.now))) c.channel.ensures (c.in_err-print_all.ensures.part told),
    )

pub returns-in_err-print_all-clause-moments : goal.returns-in_err-print_all-clause-moments
returns-in_err-print_all-clause-moments g c told =
    subst
    (λ (to : Channel). EachSince g.M.Machine.time c.args.machine.now c.print_all.new.machine
    (PrintsPart (g.M.Machine.state c.args.machine.now) (on_channel to c.args.text.now)))
    c.channel.ensures (c.print_all.ensures.moments told)

pub returns-in_err-print_all-clause-counts : goal.returns-in_err-print_all-clause-counts
returns-in_err-print_all-clause-counts g c = match_err c.from_residual.result _ _ _ c.from_residual.ensures.1 c.in_err-print_all.ensures.counts
