use Rattle.std.proofs.Common.{◌≡◌, true, List, Err, map, string_bytes, refl, sym, ap, ◌∙◌, subst}
use Rattle.tool_words.specs.Answers.{FaultIs}
use Rattle.tool_words.specs.Meaning.{meaning}
use Rattle.tool_words.specs.declared.command.Command.{Command}
use Rattle.boot_machine.specs.Prelude.{latest_view, recovered_views, IsRested, State}
use Rattle.boot_machine.proofs.Seeing.{sees}
use Rattle.boot_run.specs.AskedLines.{lines_at, lines_to_run}
use Rattle.boot_run.specs.RunBy.{CleanBehind, RunsBy, RunsLines}
use Rattle.boot_run.specs.Endings.{AllTidied, AtEnd, ended_by}
use Rattle.boot_run.specs.Lines.{has_command}
use Rattle.boot_run.specs.Spared.{RunSpares}
use Rattle.boot_run.specs.declared.ended.Ended.TheVariants.{Memory}
use Rattle.boot_run.specs.declared.line.Line.{Line}
use Rattle.boot_run.proofs.Acked.{clean_none}
use Rattle.boot_run.proofs.Taken.{no_lines, at_end_by, fits_memory, lines_are, on_ok_by, takes_usage}
use Rattle.boot_run.proofs.Topping.{runs_lines, runs_nothing}
use Rattle.boot_run.proofs.top.run_to_end.Goals as goal

pub returns-in-Ok-clause-runs : goal.returns-in-Ok-clause-runs
returns-in-Ok-clause-runs g c told =
    let old = c.args.machine.now in
    subst
    (λ meant. RunsBy g.M.Machine.time g.M.Machine.state
    (lines_to_run (g.M.Machine.state old).input (latest_view (recovered_views (g.M.Machine.state old)))
    meant) old c.run_command.new.machine c.of_lines.result)
    (sym c.in-Ok.ensures)
    (λ firm. subst (RunsLines g.M.Machine.time g.M.Machine.state old c.run_command.new.machine (lines_at (g.M.Machine.state old) c.in-Ok.command)) (sym c.of_lines.ensures)
    (runs_lines g.M.Machine.time g.M.Machine.state old c.run_command.new.machine _ c.run_command.result
    (g.met.M.Machine.sound c.run_command.new.machine told) (c.run_command.ensures.synced told firm) (c.run_command.ensures.runs told firm)))

pub returns-in-Err-Memory-clause-runs : goal.returns-in-Err-Memory-clause-runs
returns-in-Err-Memory-clause-runs g c told =
    let old = c.args.machine.now in
    runs_nothing g.M.Machine.time g.M.Machine.state _ old
    (λ m o left. g.met.M.Machine.only_now old m o told left) (λ firm m image. sees (g.M.Machine.state old) (g.met.M.Machine.sound old told) firm m image)

pub returns-in-Ok-clause-tidies : goal.returns-in-Ok-clause-tidies
returns-in-Ok-clause-tidies g c told lines asks =
    let are = lines_are (g.M.Machine.state c.args.machine.now).input (latest_view (recovered_views (g.M.Machine.state c.args.machine.now))) _ c.in-Ok.command lines c.in-Ok.ensures asks in
    let now = g.M.Machine.state c.run_command.new.machine in
    subst (λ ended. AtEnd ended (AllTidied lines now)) (sym c.of_lines.ensures)
    (subst (λ (l : List Line). AtEnd (ended_by c.run_command.result) (AllTidied l now)) are
    (at_end_by c.run_command.result _ (on_ok_by c.run_command.result _ _ (λ tidies. tidies told) c.run_command.ensures.tidies)))

pub returns-in-Err-Memory-clause-fits : goal.returns-in-Err-Memory-clause-fits
returns-in-Err-Memory-clause-fits g c = fits_memory _

pub returns-in-Err-Usage-clause-input : goal.returns-in-Err-Usage-clause-input
returns-in-Err-Usage-clause-input g c told =
    let words = map string_bytes c.args.words.now.items in
    let is : meaning words ≡ Err c.in-Err-Usage.reason = subst (λ fault. FaultIs fault (meaning words)) c.in-Err-Usage.field-0-is c.in-Err-Usage.ensures in
    takes_usage (meaning words) c.in-Err-Usage.reason _ _ _ is (ap (λ (s : State). s.input) (c.print_usage.ensures.runs told).unchanged)

pub returns-in-Ok-clause-rests : goal.returns-in-Ok-clause-rests
returns-in-Ok-clause-rests g c told lines asks =
    let are = lines_are (g.M.Machine.state c.args.machine.now).input (latest_view (recovered_views (g.M.Machine.state c.args.machine.now))) _ c.in-Ok.command lines c.in-Ok.ensures asks in
    let now = g.M.Machine.state c.run_command.new.machine in
    subst (λ ended. AtEnd ended (has_command lines ≡ true → IsRested now)) (sym c.of_lines.ensures)
    (subst (λ (l : List Line). AtEnd (ended_by c.run_command.result) (has_command l ≡ true → IsRested now)) are
    (at_end_by c.run_command.result _ (on_ok_by c.run_command.result _ _ (λ rests. rests told) c.run_command.ensures.rests)))

pub returns-in-Ok-clause-behind : goal.returns-in-Ok-clause-behind
returns-in-Ok-clause-behind g c told firm lines asks =
    let old = g.M.Machine.state c.args.machine.now in
    let now = g.M.Machine.state c.run_command.new.machine in
    let are = lines_are old.input (latest_view (recovered_views old)) _ c.in-Ok.command lines c.in-Ok.ensures asks in
    subst (CleanBehind old now lines) (sym c.of_lines.ensures)
    (subst (λ (l : List Line). CleanBehind old now l (ended_by c.run_command.result)) are (c.run_command.ensures.behind told firm))

pub returns-in-Err-Memory-clause-behind : goal.returns-in-Err-Memory-clause-behind
returns-in-Err-Memory-clause-behind g c told firm lines asks = clean_none (g.M.Machine.state c.args.machine.now) (g.M.Machine.state c.args.machine.now) lines Memory refl

pub returns-in-Err-Usage-clause-behind : goal.returns-in-Err-Usage-clause-behind
returns-in-Err-Usage-clause-behind g c told firm lines asks =
    let words = map string_bytes c.args.words.now.items in
    let is : meaning words ≡ Err c.in-Err-Usage.reason = subst (λ fault. FaultIs fault (meaning words)) c.in-Err-Usage.field-0-is c.in-Err-Usage.ensures in
    absurd (no_lines (g.M.Machine.state c.args.machine.now).input (latest_view (recovered_views (g.M.Machine.state c.args.machine.now))) (meaning words) c.in-Err-Usage.reason lines is asks)

pub returns-in-Ok-clause-spares : goal.returns-in-Ok-clause-spares
returns-in-Ok-clause-spares g c told firm command is =
    let one : c.in-Ok.command ≡ command = cc (sym c.in-Ok.ensures ∙ is) in
    subst (λ (x : Command). RunSpares x (g.M.Machine.state c.args.machine.now) (g.M.Machine.state c.run_command.new.machine)) one (c.run_command.ensures.spares told firm)

pub returns-in-Err-Memory-clause-spares : goal.returns-in-Err-Memory-clause-spares
returns-in-Err-Memory-clause-spares g c told firm command is q temp off spared = refl

pub returns-in-Err-Usage-clause-spares : goal.returns-in-Err-Usage-clause-spares
returns-in-Err-Usage-clause-spares g c told firm command is =
    let words = map string_bytes c.args.words.now.items in
    let usage : meaning words ≡ Err c.in-Err-Usage.reason = subst (λ fault. FaultIs fault (meaning words)) c.in-Err-Usage.field-0-is c.in-Err-Usage.ensures in
    absurd (cc (sym usage ∙ is))
