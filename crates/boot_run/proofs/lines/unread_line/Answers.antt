use Rattle.std.proofs.Common.{◌≡◌, ℕ, List, take, ◌∙◌, ap, subst, Ok, Err, IsTrue}
use Rattle.boot_machine.specs.Prelude.{EachSince, on_channel, with_printed, PrintsPart, recovered_now, recovered_views, Files, IsIn, recovered_view, IsFirm, IsImage}
use Rattle.boot_machine.specs.declared.machine.Channel.TheVariants.{Out, Err as ErrChannel}
use Rattle.boot_run.specs.Lines.{acknowledgement, acknowledgement_in, with_acknowledgement, unread_deed, no_command_text}
use Rattle.command_plans.specs.Prelude.{Performs, end_of, Deed}
use Rattle.boot_run.proofs.Acknowledging.{no_memory_yet, not_behind, behind_failed, behind_done, printed_not, printed_first, printed_both}
use Rattle.boot_machine.proofs.Seeing.{sees}
use Rattle.boot_run.proofs.Staying.{prints_more}
use Rattle.boot_run.proofs.lines.unread_line.Given as given
use Rattle.boot_run.proofs.lines.unread_line.Goals.{In_ok-outcome}
use Rattle.boot_run.proofs.lines.unread_line.Goals as goal

module _ (g : given.Over) where
  open g.M.Machine use {tells, time, state}

  -- what the line is to do, but for its acknowledgement
  abbrev deed_of : ℕ → g.row.M.Denot → Deed
  deed_of number old = unread_deed 17 (no_command_text number) (recovered_now (state old))

  -- the refusal is printed
  refused : (c : In_ok-outcome g) → IsTrue tells → IsFirm (state c.args.machine.now)
      → Performs time state end_of c.args.machine.now c.refuse_unread.new.machine (deed_of c.args.number c.args.machine.now) (Ok c.in_ok-outcome.outcome)
  refused c told firm = subst (λ (text : List ℕ). Performs time state end_of c.args.machine.now c.refuse_unread.new.machine
      (unread_deed 17 text (recovered_now (state c.args.machine.now))) (Ok c.in_ok-outcome.outcome))
      c.in_ok-text.ensures (c.in_ok-outcome.ensures.performs told firm)

  refused_moments : (c : In_ok-outcome g) → IsTrue tells → EachSince time c.args.machine.now c.refuse_unread.new.machine
      (PrintsPart (state c.args.machine.now) (on_channel ErrChannel (no_command_text c.args.number)))
  refused_moments c told = subst (λ (text : List ℕ). EachSince time c.args.machine.now c.refuse_unread.new.machine
      (PrintsPart (state c.args.machine.now) (on_channel ErrChannel text))) c.in_ok-text.ensures (c.refuse_unread.ensures.moments told)

  -- the acknowledgement is that of what was done
  ack : (c : In_ok-outcome g) → IsTrue tells → IsFirm (state c.args.machine.now)
      → acknowledgement_in c.in_ok-texts.texts c.in_ok-outcome.outcome
      ≡ acknowledgement (deed_of c.args.number c.args.machine.now).outcome c.args.number
  ack c told firm = c.in_ok-texts.ensures c.in_ok-outcome.outcome ∙ ap (λ o. acknowledgement o c.args.number) (refused c told firm).ok.0

  -- a machine that is firm shows what it may show
  shown : (old : g.row.M.Denot) → IsTrue tells → IsFirm (state old) → (m : Files) → IsImage (state old) m
      → IsIn (recovered_view m) (recovered_views (state old))
  shown old told firm m image = sees (state old) (g.met.M.Machine.sound old told) firm m image

pub returns-in_err-text-clause-performs : goal.returns-in_err-text-clause-performs
returns-in_err-text-clause-performs g c told firm =
    let old = c.args.machine.now in
    let failed = c.from_residual.ensures in
    no_memory_yet g.M.Machine.time g.M.Machine.state old (with_acknowledgement c.args.number (deed_of g c.args.number old)) c.from_residual.result
    failed.0 failed.1 firm (λ m o left. let now = g.met.M.Machine.only_now old m o told left in (shown g old told firm m now.0, now.1))

pub returns-in_err-texts-clause-performs : goal.returns-in_err-texts-clause-performs
returns-in_err-texts-clause-performs g c told firm =
    let old = c.args.machine.now in
    let failed = c.from_residual-in_err-texts.ensures in
    no_memory_yet g.M.Machine.time g.M.Machine.state old (with_acknowledgement c.args.number (deed_of g c.args.number old)) c.from_residual-in_err-texts.result
    failed.0 failed.1 firm (λ m o left. let now = g.met.M.Machine.only_now old m o told left in (shown g old told firm m now.0, now.1))

pub returns-in_err-outcome-clause-performs : goal.returns-in_err-outcome-clause-performs
returns-in_err-outcome-clause-performs g c told firm =
    let old = c.args.machine.now in
    let deed = deed_of g c.args.number old in
    let failed = c.from_residual-in_err-outcome.ensures in
    not_behind g.M.Machine.time g.M.Machine.state old deed (acknowledgement deed.outcome c.args.number) c.refuse_unread.new.machine
    c.in_err-outcome.field-0.0 c.from_residual-in_err-outcome.result failed.0 failed.1
    (subst (λ (text : List ℕ). Performs g.M.Machine.time g.M.Machine.state end_of old c.refuse_unread.new.machine
    (unread_deed 17 text (recovered_now (g.M.Machine.state old))) (Err c.in_err-outcome.field-0.0))
    c.in_ok-text.ensures (c.in_err-outcome.ensures.performs told firm))

pub returns-in_err-acknowledge-clause-performs : goal.returns-in_err-acknowledge-clause-performs
returns-in_err-acknowledge-clause-performs g c told firm =
    let old = c.args.machine.now in
    let mid = c.refuse_unread.new.machine in
    let deed = deed_of g c.args.number old in
    let done = (goal.at.returns-in_err-acknowledge-clause-performs g c).In_ok-outcome in
    let performs = refused g done told firm in
    let ack = ack g done told firm in
    let failed = c.from_residual-in_err-acknowledge.ensures in
    behind_failed g.M.Machine.time g.M.Machine.state old deed (acknowledgement deed.outcome c.args.number) mid c.acknowledge.new.machine
    c.in_ok-outcome.outcome c.from_residual-in_err-acknowledge.result failed.0 failed.1 performs (shown g mid told performs.firm)
    (subst (λ (bytes : List ℕ). EachSince g.M.Machine.time mid c.acknowledge.new.machine (PrintsPart (g.M.Machine.state mid) (on_channel Out bytes)))
    ack (c.acknowledge.ensures.moments told))
    (subst (λ (bytes : List ℕ). (k : ℕ) × (g.M.Machine.state c.acknowledge.new.machine ≡ with_printed Out (take k bytes) (g.M.Machine.state mid)))
    ack (c.in_err-acknowledge.ensures.part told))

pub returns-clause-performs : goal.returns-clause-performs
returns-clause-performs g c told firm =
    let old = c.args.machine.now in
    let mid = c.refuse_unread.new.machine in
    let deed = deed_of g c.args.number old in
    let done = (goal.at.returns-clause-performs g c).In_ok-outcome in
    let performs = refused g done told firm in
    let ack = ack g done told firm in
    behind_done g.M.Machine.time g.M.Machine.state old deed (acknowledgement deed.outcome c.args.number) mid c.acknowledge.new.machine
    c.in_ok-outcome.outcome performs (shown g mid told performs.firm)
    (subst (λ (bytes : List ℕ). EachSince g.M.Machine.time mid c.acknowledge.new.machine (PrintsPart (g.M.Machine.state mid) (on_channel Out bytes)))
    ack (c.acknowledge.ensures.moments told))
    (subst (λ (bytes : List ℕ). g.M.Machine.state c.acknowledge.new.machine ≡ with_printed Out bytes (g.M.Machine.state mid))
    ack (c.in_ok-acknowledge.ensures.done told))

pub returns-in_err-acknowledge-clause-stays : goal.returns-in_err-acknowledge-clause-stays
returns-in_err-acknowledge-clause-stays g c told = prints_more _ _ _ (c.refuse_unread.ensures.stays told) (c.acknowledge.ensures.stays told)

pub returns-clause-stays : goal.returns-clause-stays
returns-clause-stays g c told = prints_more _ _ _ (c.refuse_unread.ensures.stays told) (c.acknowledge.ensures.stays told)

pub returns-in_err-text-clause-moments : goal.returns-in_err-text-clause-moments
returns-in_err-text-clause-moments g c told firm =
    printed_not g.M.Machine.time g.M.Machine.state c.args.machine.now _ (λ m o left. g.met.M.Machine.only_now c.args.machine.now m o told left)

pub returns-in_err-texts-clause-moments : goal.returns-in_err-texts-clause-moments
returns-in_err-texts-clause-moments g c told firm =
    printed_not g.M.Machine.time g.M.Machine.state c.args.machine.now _ (λ m o left. g.met.M.Machine.only_now c.args.machine.now m o told left)

pub returns-in_err-outcome-clause-moments : goal.returns-in_err-outcome-clause-moments
returns-in_err-outcome-clause-moments g c told firm =
    let old = c.args.machine.now in
    let deed = deed_of g c.args.number old in
    printed_first g.M.Machine.time g.M.Machine.state old c.refuse_unread.new.machine deed.sent (on_channel Out (acknowledgement deed.outcome c.args.number))
    (subst (λ (text : List ℕ). EachSince g.M.Machine.time old c.refuse_unread.new.machine
    (PrintsPart (g.M.Machine.state old) (on_channel ErrChannel text))) c.in_ok-text.ensures (c.refuse_unread.ensures.moments told))

pub returns-in_err-acknowledge-clause-moments : goal.returns-in_err-acknowledge-clause-moments
returns-in_err-acknowledge-clause-moments g c told firm =
    let old = c.args.machine.now in
    let mid = c.refuse_unread.new.machine in
    let deed = deed_of g c.args.number old in
    let done = (goal.at.returns-in_err-acknowledge-clause-moments g c).In_ok-outcome in
    let performs = refused g done told firm in
    let ack = ack g done told firm in
    printed_both g.M.Machine.time g.M.Machine.state old mid c.acknowledge.new.machine deed.sent (on_channel Out (acknowledgement deed.outcome c.args.number))
    (c.refuse_unread.ensures.stays told) performs.ok.2 (refused_moments g done told)
    (subst (λ (bytes : List ℕ). EachSince g.M.Machine.time mid c.acknowledge.new.machine (PrintsPart (g.M.Machine.state mid) (on_channel Out bytes)))
    ack (c.acknowledge.ensures.moments told))

pub returns-clause-moments : goal.returns-clause-moments
returns-clause-moments g c told firm =
    let old = c.args.machine.now in
    let mid = c.refuse_unread.new.machine in
    let deed = deed_of g c.args.number old in
    let done = (goal.at.returns-clause-moments g c).In_ok-outcome in
    let performs = refused g done told firm in
    let ack = ack g done told firm in
    printed_both g.M.Machine.time g.M.Machine.state old mid c.acknowledge.new.machine deed.sent (on_channel Out (acknowledgement deed.outcome c.args.number))
    (c.refuse_unread.ensures.stays told) performs.ok.2 (refused_moments g done told)
    (subst (λ (bytes : List ℕ). EachSince g.M.Machine.time mid c.acknowledge.new.machine (PrintsPart (g.M.Machine.state mid) (on_channel Out bytes)))
    ack (c.acknowledge.ensures.moments told))
