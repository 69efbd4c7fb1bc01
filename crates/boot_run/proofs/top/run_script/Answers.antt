use Rattle.std.proofs.Common.{◌≡◌, true, List, Err, ap, ◌∙◌, subst, sym, rules}
use Rattle.std.specs.FinMap.{get}
use Rattle.boot_machine.specs.Prelude.{Files, IsRested, State, recovered_now}
use Rattle.boot_machine.proofs.Seeing.{sees}
use Rattle.tool_words.specs.declared.command.Command.TheVariants as command
use Rattle.command_plans.specs.declared.outcome.RunError.{RunError}
use Rattle.boot_run.specs.AskedLines.{lines_at}
use Rattle.boot_run.specs.Endings.{AllTidied, ended_by}
use Rattle.boot_run.specs.Lines.{has_command}
use Rattle.boot_run.specs.RunsTo.{RunsTo, IsSyncedBy}
use Rattle.boot_run.specs.Spared.{AllSpare}
use Rattle.boot_run.specs.declared.line.Line.{Line}
use Rattle.boot_run.specs.RunBy.{CleanBehind}
use Rattle.boot_run.proofs.Acked.{clean_none, clean_read}
use Rattle.boot_run.proofs.Staying.{leaves_more, temps_stay}
use Rattle.boot_run.proofs.Taken.{at_any, on_ok_by, takes_script}
use Rattle.boot_run.proofs.Topping.{script_synced, script_unsynced, no_script, script_runs, same_firm}
use Rattle.boot_run.proofs.top.run_script.Goals as goal

pub returns-in_err-lines : goal.returns-in_err-lines
returns-in_err-lines g c = record {
  runs = λ told firm.
      let old = c.args.machine.now in
      no_script g.M.Machine.time g.M.Machine.state old c.read_script.new.machine (lines_at (g.M.Machine.state old) command.Script) c.in_err-lines.field-0.0
      _ (λ is. c.in_err-lines.ensures.no_disk (ap (λ (stop : RunError). Err stop) is)) c.from_residual.ensures.0 c.from_residual.ensures.1
      (λ m image. sees (g.M.Machine.state old) (g.met.M.Machine.sound old told) firm m image) firm (c.read_script.ensures.same told) (c.read_script.ensures.moments told);
  synced = λ told firm.
      script_unsynced g.M.Machine.time g.M.Machine.state c.args.machine.now c.read_script.new.machine
      (lines_at (g.M.Machine.state c.args.machine.now) command.Script) (c.read_script.ensures.moments told);
  tidies = search rules;
  rests = search rules;
  behind = λ told firm.
      clean_none (g.M.Machine.state c.args.machine.now) (g.M.Machine.state c.read_script.new.machine) (lines_at (g.M.Machine.state c.args.machine.now) command.Script) (ended_by c.from_residual.result)
      (ap (λ (s : State). s.printed) (c.read_script.ensures.same told));
  input = search rules;
  temps = search rules;
  spares = λ told firm q temp off spared. ap (λ (s : State). get s.files q) (c.read_script.ensures.same told);
  counted = search rules;
}

pub returns : goal.returns
returns g c = record {
  runs = λ told firm.
      let old = c.args.machine.now in
      let s = g.M.Machine.state old in
      let lines = c.as_slice.ensures.value ∙ c.in_ok-lines.ensures.lines told in
      let runs = c.run_lines.ensures.runs told (same_firm g.M.Machine.time g.M.Machine.state s (g.M.Machine.state c.read_script.new.machine) (c.read_script.ensures.same told) firm) in
      script_runs g.M.Machine.time g.M.Machine.state old c.read_script.new.machine c.run_lines.new.machine _ c.run_lines.result
      (λ m image. sees (g.M.Machine.state old) (g.met.M.Machine.sound old told) firm m image) (c.read_script.ensures.same told) (c.read_script.ensures.moments told)
      (subst (λ (l : List Line). RunsTo g.M.Machine.time g.M.Machine.state c.read_script.new.machine c.run_lines.new.machine l c.run_lines.result) lines runs);
  synced = λ told firm.
      let old = c.args.machine.now in
      let s = g.M.Machine.state old in
      let lines = c.as_slice.ensures.value ∙ c.in_ok-lines.ensures.lines told in
      let synced = c.run_lines.ensures.synced told (same_firm g.M.Machine.time g.M.Machine.state s (g.M.Machine.state c.read_script.new.machine) (c.read_script.ensures.same told) firm) in
      script_synced g.M.Machine.time g.M.Machine.state old c.read_script.new.machine c.run_lines.new.machine _ (c.read_script.ensures.same told) (c.read_script.ensures.moments told)
      (subst (λ (l : List Line). IsSyncedBy g.M.Machine.time g.M.Machine.state c.read_script.new.machine c.run_lines.new.machine l) lines synced);
  tidies =
      on_ok_by c.run_lines.result _ _
      (λ tidies told. subst (λ (l : List Line). AllTidied l (g.M.Machine.state c.run_lines.new.machine))
      (c.as_slice.ensures.value ∙ c.in_ok-lines.ensures.lines told) (tidies told))
      c.run_lines.ensures.tidies;
  rests =
      on_ok_by c.run_lines.result _ _
      (λ rests told. subst (λ (l : List Line). has_command l ≡ true → IsRested (g.M.Machine.state c.run_lines.new.machine))
      (c.as_slice.ensures.value ∙ c.in_ok-lines.ensures.lines told) (rests told))
      c.run_lines.ensures.rests;
  behind = λ told firm.
      let s = g.M.Machine.state c.args.machine.now in
      let now = g.M.Machine.state c.run_lines.new.machine in
      let lines = c.as_slice.ensures.value ∙ c.in_ok-lines.ensures.lines told in
      let behind = c.run_lines.ensures.behind told (same_firm g.M.Machine.time g.M.Machine.state s (g.M.Machine.state c.read_script.new.machine) (c.read_script.ensures.same told) firm) in
      clean_read s (g.M.Machine.state c.read_script.new.machine) now (lines_at s command.Script) (ended_by c.run_lines.result) (c.read_script.ensures.same told)
      (subst (λ (l : List Line). CleanBehind (g.M.Machine.state c.read_script.new.machine) now l (ended_by c.run_lines.result)) lines behind);
  input = λ told.
      let taken = c.read_script.ensures.taken told in
      let same = c.run_lines.ensures.behaves.input told in
      takes_script _ _ _ (taken.0, taken.1, same ∙ taken.2) (at_any _ _ (same ∙ c.in_ok-lines.ensures.rest told));
  temps = λ told.
      let old = g.M.Machine.state c.args.machine.now in
      let mid = g.M.Machine.state c.read_script.new.machine in
      leaves_more c.run_lines.result old mid (g.M.Machine.state c.run_lines.new.machine)
      (temps_stay old mid (ap (λ (s : State). s.files) (c.read_script.ensures.same told))) (c.run_lines.ensures.behaves.temps told);
  spares = λ told firm q temp off spared.
      let s = g.M.Machine.state c.args.machine.now in
      let mid = g.M.Machine.state c.read_script.new.machine in
      let same = c.read_script.ensures.same told in
      let lines = c.as_slice.ensures.value ∙ c.in_ok-lines.ensures.lines told in
      c.run_lines.ensures.spares told (same_firm g.M.Machine.time g.M.Machine.state s mid same firm) q temp
      (subst (λ (l : List Line). AllSpare (recovered_now mid) l q) (sym lines)
      (subst (λ (v : Files). AllSpare v (lines_at s command.Script) q) (sym (ap (λ (s : State). recovered_now s) same)) spared))
      ∙ ap (λ (s : State). get s.files q) same;
  counted = search rules;
}
