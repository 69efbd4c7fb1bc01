use Rattle.std.proofs.Common.{◌≡◌, ℕ, List, take, subst, IsTrue}
use Rattle.boot_machine.specs.Prelude.{EachSince, on_channel, with_printed, PrintsPart}
use Rattle.boot_machine.specs.declared.machine.Channel.TheVariants.{Err}
use Rattle.boot_run.proofs.Acknowledging.{refused_unread, told_unread}
use Rattle.boot_machine.proofs.Seeing.{sees}
use Rattle.boot_run.proofs.Staying.{prints_by}
use Rattle.boot_run.proofs.lines.refuse_unread.Given as given
use Rattle.boot_run.proofs.lines.refuse_unread.Goals.{After-print_all}
use Rattle.boot_run.proofs.lines.refuse_unread.Goals as goal

module _ (g : given.Over) where
  open g.M.Machine use {tells, time, state}

  printed : (c : After-print_all g) → IsTrue tells → EachSince time c.args.machine.now c.print_all.new.machine
      (PrintsPart (state c.args.machine.now) (on_channel Err c.args.text.now))
  printed c told = subst (λ (bytes : List ℕ). EachSince time c.args.machine.now c.print_all.new.machine
      (PrintsPart (state c.args.machine.now) (on_channel Err bytes))) c.as_slice.ensures (c.print_all.ensures.moments told)

pub returns-in_err-print_all-clause-performs : goal.returns-in_err-print_all-clause-performs
returns-in_err-print_all-clause-performs g c told firm =
    let old = c.args.machine.now in
    let failed = c.from_residual.ensures in
    let shown = subst (λ (bytes : List ℕ). (k : ℕ) × (g.M.Machine.state c.print_all.new.machine ≡ with_printed Err (take k bytes) (g.M.Machine.state old)))
    c.as_slice.ensures (c.in_err-print_all.ensures.part told) in
    refused_unread g.M.Machine.time g.M.Machine.state old c.print_all.new.machine c.args.number c.args.text.now c.from_residual.result shown.0
    (sees (g.M.Machine.state old) (g.met.M.Machine.sound old told) firm) firm
    (printed g (goal.at.returns-in_err-print_all-clause-performs g c).After-print_all told) shown.1 failed.0 failed.1

pub returns-clause-performs : goal.returns-clause-performs
returns-clause-performs g c told firm =
    let old = c.args.machine.now in
    told_unread g.M.Machine.time g.M.Machine.state old c.print_all.new.machine c.args.number c.args.text.now
    (sees (g.M.Machine.state old) (g.met.M.Machine.sound old told) firm) firm
    (printed g (goal.at.returns-clause-performs g c).After-print_all told)
    (subst (λ (bytes : List ℕ). g.M.Machine.state c.print_all.new.machine ≡ with_printed Err bytes (g.M.Machine.state old))
    c.as_slice.ensures (c.in_ok-print_all.ensures.done told))

pub returns-in_err-print_all-clause-stays : goal.returns-in_err-print_all-clause-stays
returns-in_err-print_all-clause-stays g c =
    prints_by c.print_all.result (g.M.Machine.state c.args.machine.now) (g.M.Machine.state c.print_all.new.machine) Err c.as_slice.result.now
    c.print_all.ensures.done c.print_all.ensures.part

pub returns-clause-stays : goal.returns-clause-stays
returns-clause-stays g c =
    prints_by c.print_all.result (g.M.Machine.state c.args.machine.now) (g.M.Machine.state c.print_all.new.machine) Err c.as_slice.result.now
    c.print_all.ensures.done c.print_all.ensures.part

pub returns-in_err-print_all-clause-moments : goal.returns-in_err-print_all-clause-moments
returns-in_err-print_all-clause-moments g c = printed g (goal.at.returns-in_err-print_all-clause-moments g c).After-print_all

pub returns-clause-moments : goal.returns-clause-moments
returns-clause-moments g c = printed g (goal.at.returns-clause-moments g c).After-print_all
