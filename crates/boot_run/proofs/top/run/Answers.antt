use Rattle.std.proofs.Common.{◌≡◌, true, map, string_bytes, sym, ap, ◌∙◌, subst}
use Rattle.boot_machine.specs.Prelude.{IsRested, IsSettled, Adds, recovered_views}
use Rattle.boot_machine.proofs.Settled.{firm_of_settled}
use Rattle.boot_run.specs.AskedLines.{asked_lines_of}
use Rattle.boot_run.specs.Endings.{AllTidied, AtEnd, UnlessDisk, end_at, ended_of}
use Rattle.boot_run.specs.Lines.{has_command}
use Rattle.boot_run.specs.RunBy.{CleanBehind}
use Rattle.boot_run.specs.Step.{Leads}
use Rattle.boot_run.proofs.Taken.{ended_again}
use Rattle.boot_run.proofs.Topping.{after_change, firm_by, headline, leads_by, lines_run, settled_by, stops_by}
use Rattle.boot_run.proofs.top.run.Goals as goal

pub returns-clause-headline : goal.returns-clause-headline
returns-clause-headline g c told settled lines asks =
    let old = c.args.machine.now in
    let now = c.run_to_end.new.machine in
    headline g.M.Machine.time g.M.Machine.state old now lines c.run_to_end.result settled
    (lines_run g.M.Machine.time g.M.Machine.state _ lines old now c.run_to_end.result asks (c.run_to_end.ensures.runs told) (firm_of_settled (g.M.Machine.state old) settled))

pub returns-clause-after_change : goal.returns-clause-after_change
returns-clause-after_change g c told settled lines asks =
    let old = c.args.machine.now in
    let now = c.run_to_end.new.machine in
    after_change g.M.Machine.time g.M.Machine.state old now lines
    (headline g.M.Machine.time g.M.Machine.state old now lines c.run_to_end.result settled
    (lines_run g.M.Machine.time g.M.Machine.state _ lines old now c.run_to_end.result asks (c.run_to_end.ensures.runs told) (firm_of_settled (g.M.Machine.state old) settled)))

pub returns-clause-leads : goal.returns-clause-leads
returns-clause-leads g c told firm =
    let old = c.args.machine.now in
    let now = c.run_to_end.new.machine in
    let asks = asked_lines_of (map string_bytes c.args.words.now.items) (g.M.Machine.state old) in
    let same = ap ended_of c.status.ensures ∙ ended_again c.run_to_end.result in
    subst
    (λ ended. Adds (g.M.Machine.state old).printed (g.M.Machine.state now).printed
    (λ sent. Leads (recovered_views (g.M.Machine.state old)) asks (recovered_views (g.M.Machine.state now)) sent (end_at ended)))
    (sym same)
    (leads_by g.M.Machine.time g.M.Machine.state asks old now c.run_to_end.result (c.run_to_end.ensures.runs told) firm)

pub returns-clause-stops : goal.returns-clause-stops
returns-clause-stops g c told firm =
    stops_by g.M.Machine.time g.M.Machine.state _ c.args.machine.now c.run_to_end.new.machine c.run_to_end.result
    (g.met.M.Machine.sound c.args.machine.now told) (c.run_to_end.ensures.runs told) firm

pub returns-clause-firm : goal.returns-clause-firm
returns-clause-firm g c told firm = firm_by g.M.Machine.time g.M.Machine.state _ c.args.machine.now c.run_to_end.new.machine c.run_to_end.result (c.run_to_end.ensures.runs told) firm

pub returns-clause-settled : goal.returns-clause-settled
returns-clause-settled g c told =
    let old = c.args.machine.now in
    let now = c.run_to_end.new.machine in
    let same = ap ended_of c.status.ensures ∙ ended_again c.run_to_end.result in
    subst (λ ended. UnlessDisk ended (IsSettled (g.M.Machine.state old) → IsSettled (g.M.Machine.state now))) (sym same)
    (settled_by g.M.Machine.time g.M.Machine.state _ old now c.run_to_end.result (c.run_to_end.ensures.runs told))

pub returns-clause-tidied : goal.returns-clause-tidied
returns-clause-tidied g c told lines asks =
    let old = c.args.machine.now in
    let now = c.run_to_end.new.machine in
    let same = ap ended_of c.status.ensures ∙ ended_again c.run_to_end.result in
    subst (λ ended. AtEnd ended (AllTidied lines (g.M.Machine.state now))) (sym same) (c.run_to_end.ensures.tidies told lines asks)

pub returns-clause-rests : goal.returns-clause-rests
returns-clause-rests g c told lines asks =
    let now = c.run_to_end.new.machine in
    let same = ap ended_of c.status.ensures ∙ ended_again c.run_to_end.result in
    subst (λ ended. AtEnd ended (has_command lines ≡ true → IsRested (g.M.Machine.state now))) (sym same) (c.run_to_end.ensures.rests told lines asks)

pub returns-clause-behind : goal.returns-clause-behind
returns-clause-behind g c told firm lines asks =
    let now = c.run_to_end.new.machine in
    let same = ap ended_of c.status.ensures ∙ ended_again c.run_to_end.result in
    subst (CleanBehind (g.M.Machine.state c.args.machine.now) (g.M.Machine.state now) lines) (sym same) (c.run_to_end.ensures.behind told firm lines asks)

pub returns-clause-from_sync : goal.returns-clause-from_sync
returns-clause-from_sync g c told firm lines asks =
    (lines_run g.M.Machine.time g.M.Machine.state _ lines c.args.machine.now c.run_to_end.new.machine c.run_to_end.result asks (c.run_to_end.ensures.runs told) firm).from_sync
