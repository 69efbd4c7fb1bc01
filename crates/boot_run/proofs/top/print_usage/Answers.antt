use Rattle.std.proofs.Common.{◌≡◌, ℕ, List, take, ◌∙◌, subst}
use Rattle.boot_machine.specs.Prelude.{EachSince, on_channel, with_printed, PrintsPart}
use Rattle.boot_machine.specs.declared.machine.Channel.TheVariants.{Err}
use Rattle.boot_run.specs.AskedLines.{usage_line}
use Rattle.boot_run.proofs.Topping.{usage_done, usage_failed, usage_read_error}
use Rattle.boot_run.proofs.top.print_usage.Goals as goal

pub returns-in_default-clause-runs : goal.returns-in_default-clause-runs
returns-in_default-clause-runs g c told =
    let old = c.args.machine.now in
    usage_read_error g.M.Machine.time g.M.Machine.state old (on_channel Err (usage_line c.args.reason.now)) (λ m o left. g.met.M.Machine.only_now old m o told left)

pub returns-in-Ok-print_all-clause-runs : goal.returns-in-Ok-print_all-clause-runs
returns-in-Ok-print_all-clause-runs g c told =
    let old = c.args.machine.now in
    let text = c.as_bytes.ensures.value ∙ c.as_str.ensures ∙ c.in-Ok.ensures in
    usage_done g.M.Machine.time g.M.Machine.state old c.print_all.new.machine (usage_line c.args.reason.now)
    (subst (λ (bytes : List ℕ). g.M.Machine.state c.print_all.new.machine ≡ with_printed Err bytes (g.M.Machine.state old)) text (c.in-Ok-print_all.ensures.done told))
    (subst (λ (bytes : List ℕ). EachSince g.M.Machine.time old c.print_all.new.machine (PrintsPart (g.M.Machine.state old) (on_channel Err bytes))) text (c.print_all.ensures.moments told))

pub returns-clause-runs : goal.returns-clause-runs
returns-clause-runs g c told =
    let old = c.args.machine.now in
    let text = c.as_bytes.ensures.value ∙ c.as_str.ensures ∙ c.in-Ok.ensures in
    usage_failed g.M.Machine.time g.M.Machine.state old c.print_all.new.machine (usage_line c.args.reason.now)
    (subst (λ (bytes : List ℕ). (k : ℕ) × (g.M.Machine.state c.print_all.new.machine ≡ with_printed Err (take k bytes) (g.M.Machine.state old))) text (c.in-Err.ensures.part told))
    (subst (λ (bytes : List ℕ). EachSince g.M.Machine.time old c.print_all.new.machine (PrintsPart (g.M.Machine.state old) (on_channel Err bytes))) text (c.print_all.ensures.moments told))
