use Rattle.std.proofs.Common.{◌≡◌, ◌+◌, ◌∙◌, false, refl, sym, subst, rules}
use Rattle.std.proofs.lemmas.List.Elements.{All-get_or}
use Rattle.boot_machine.specs.Prelude.{recovered_now}
use Rattle.boot_machine.proofs.Seeing.{sees}
use Rattle.boot_run.specs.Lines.{is_unread}
use Rattle.boot_run.specs.declared.line.Line.{Line}
use Rattle.boot_run.proofs.Staying.{leaves_more, leaves_so, no_more_temps, rested_so}
use Rattle.boot_run.proofs.Spared.{keeps_front}
use Rattle.boot_run.proofs.UpToRefused.{all_done, ends_at, goes_behind, keeps_next, lines_done, none_yet, stops_in}
use Rattle.boot_run.proofs.expansion.run_actions.Given as given
use Rattle.boot_run.proofs.expansion.run_actions.Goals.{After-run_line}
use Rattle.boot_run.proofs.expansion.run_actions.Goals as goal

-- the line is a command
is_command : (g : given.Over) (c : After-run_line g) → is_unread c.line-item.result ≡ false
is_command g c = subst (λ (l : Line). is_unread l ≡ false) (sym c.line-item.is)
    (All-get_or (λ l. is_unread l ≡ false) c.args.lines.now c.loop-line.line-index c.line-item.result c.loop-line-test.true c.requires.commands)

pub loop-line-init : goal.loop-line-init
loop-line-init g c = record {
  told = λ told firm. none_yet g.M.Machine.time g.M.Machine.state c.args.machine.now c.args.lines.now firm
      (λ m o left. let now = g.met.M.Machine.only_now c.args.machine.now m o told left in
      (sees (g.M.Machine.state c.args.machine.now) (g.met.M.Machine.sound c.args.machine.now told) firm m now.0, now.1));
  rests = c.requires.rested;
  input = λ told. refl;
  temps = λ told q temp there. there;
  spares = λ told firm q temp spared. refl;
  counts = refl;
}

pub returns-in_err-outcome-clause-runs : goal.returns-in_err-outcome-clause-runs
returns-in_err-outcome-clause-runs g c told firm =
    let lines = c.args.lines.now in
    let line = c.line-item.result in
    let before = c.loop-line.invariant.told told firm in
    let command = is_command g (goal.at.returns-in_err-outcome-clause-runs g c).After-run_line in
    stops_in _ _ _ _ _ _ _ _ c.loop-line-test.true (sym c.line-item.is) command before
    c.in_err-outcome.field-0.0 c.from_residual.result c.from_residual.ensures.0 c.from_residual.ensures.1 (c.in_err-outcome.ensures.performs told before.so_far.firm)

pub returns-in_err-outcome-clause-rests : goal.returns-in_err-outcome-clause-rests
returns-in_err-outcome-clause-rests g c told =
    rested_so c.run_line.result c.from_residual.result c.in_err-outcome.field-0.0 (g.M.Machine.state c.run_line.new.machine)
    c.in_err-outcome.was c.from_residual.ensures.0 c.from_residual.ensures.1 (c.run_line.ensures.rests told (c.loop-line.invariant.rests told))

pub returns-in_err-outcome-clause-behaves : goal.returns-in_err-outcome-clause-behaves
returns-in_err-outcome-clause-behaves g c = record {
  input = λ told. c.run_line.ensures.behaves.input told ∙ c.loop-line.invariant.input told;
  temps =
      λ told. leaves_more c.from_residual.result (g.M.Machine.state c.args.machine.now) (g.M.Machine.state c.loop-line.machine)
      (g.M.Machine.state c.run_line.new.machine) (c.loop-line.invariant.temps told)
      (leaves_so c.run_line.result c.from_residual.result c.in_err-outcome.field-0.0 (g.M.Machine.state c.loop-line.machine) (g.M.Machine.state c.run_line.new.machine)
      c.in_err-outcome.was c.from_residual.ensures.0 c.from_residual.ensures.1 (c.run_line.ensures.behaves.temps told));
  counted = search rules;
}

pub returns-then-is_refused-clause-runs : goal.returns-then-is_refused-clause-runs
returns-then-is_refused-clause-runs g c told firm =
    let lines = c.args.lines.now in
    let line = c.line-item.result in
    let before = c.loop-line.invariant.told told firm in
    let command = is_command g (goal.at.returns-then-is_refused-clause-runs g c).After-run_line in
    ends_at _ _ _ _ _ _ _ _ c.loop-line-test.true (sym c.line-item.is) command before
    c.in_ok-outcome.outcome (c.in_ok-outcome.ensures.performs told before.so_far.firm) (sym c.is_refused.ensures ∙ c.if-is_refused.true)

pub returns-then-is_refused-clause-rests : goal.returns-then-is_refused-clause-rests
returns-then-is_refused-clause-rests g c told = c.in_ok-outcome.ensures.rests told (c.loop-line.invariant.rests told)

pub returns-then-is_refused-clause-behaves : goal.returns-then-is_refused-clause-behaves
returns-then-is_refused-clause-behaves g c = record {
  input = λ told. c.run_line.ensures.behaves.input told ∙ c.loop-line.invariant.input told;
  temps =
      λ told. no_more_temps (g.M.Machine.state c.args.machine.now) (g.M.Machine.state c.loop-line.machine) (g.M.Machine.state c.run_line.new.machine)
      (c.loop-line.invariant.temps told) (c.in_ok-outcome.ensures.behaves.temps told);
  counted = c.in_ok-outcome.ensures.behaves.counted ∙ c.loop-line.invariant.counts;
}

pub loop-line-preserved : goal.loop-line-preserved
loop-line-preserved g c = record {
  told = λ told firm.
      let lines = c.args.lines.now in
      let line = c.line-item.result in
      let before = c.loop-line.invariant.told told firm in
      let command = is_command g (goal.at.loop-line-preserved g c).After-run_line in
      goes_behind _ _ _ _ _ _ _ _ c.loop-line-test.true (sym c.line-item.is) command before
      c.in_ok-outcome.outcome (c.in_ok-outcome.ensures.performs told before.so_far.firm) (sym c.is_refused.ensures ∙ c.if-is_refused.false);
  rests = λ told. c.in_ok-outcome.ensures.rests told (c.loop-line.invariant.rests told);
  input = λ told. c.run_line.ensures.behaves.input told ∙ c.loop-line.invariant.input told;
  temps =
      λ told. no_more_temps (g.M.Machine.state c.args.machine.now) (g.M.Machine.state c.loop-line.machine) (g.M.Machine.state c.run_line.new.machine)
      (c.loop-line.invariant.temps told) (c.in_ok-outcome.ensures.behaves.temps told);
  spares = λ told firm.
      let before = c.loop-line.invariant.told told firm in
      let command = is_command g (goal.at.loop-line-preserved g c).After-run_line in
      keeps_next g.M.Machine.time g.M.Machine.state _ _ _ _ _ _ c.loop-line-test.true (sym c.line-item.is) command before (c.loop-line.invariant.spares told firm) (c.run_line.ensures.spares told);
  counts = c.in_ok-outcome.ensures.behaves.counted ∙ c.loop-line.invariant.counts;
}

pub returns-clause-runs : goal.returns-clause-runs
returns-clause-runs g c told firm =
    all_done g.M.Machine.time g.M.Machine.state c.args.machine.now c.loop-line.machine c.args.lines.now c.loop-line.line-index c.loop-line-test.false (c.loop-line.invariant.told told firm)

-- ---- the temporary files of others

pub returns-in_err-outcome-clause-spares : goal.returns-in_err-outcome-clause-spares
returns-in_err-outcome-clause-spares g c told firm =
    let before = c.loop-line.invariant.told told firm in
    let command = is_command g (goal.at.returns-in_err-outcome-clause-spares g c).After-run_line in
    keeps_front (recovered_now (g.M.Machine.state c.args.machine.now)) (lines_done g.M.Machine.time g.M.Machine.state c.args.machine.now c.args.lines.now) (c.loop-line.line-index + 1) _ _
    (keeps_next g.M.Machine.time g.M.Machine.state _ _ _ _ _ _ c.loop-line-test.true (sym c.line-item.is) command before (c.loop-line.invariant.spares told firm) (c.run_line.ensures.spares told))

pub returns-then-is_refused-clause-spares : goal.returns-then-is_refused-clause-spares
returns-then-is_refused-clause-spares g c told firm =
    let before = c.loop-line.invariant.told told firm in
    let command = is_command g (goal.at.returns-then-is_refused-clause-spares g c).After-run_line in
    keeps_front (recovered_now (g.M.Machine.state c.args.machine.now)) (lines_done g.M.Machine.time g.M.Machine.state c.args.machine.now c.args.lines.now) (c.loop-line.line-index + 1) _ _
    (keeps_next g.M.Machine.time g.M.Machine.state _ _ _ _ _ _ c.loop-line-test.true (sym c.line-item.is) command before (c.loop-line.invariant.spares told firm) (c.run_line.ensures.spares told))

pub returns-clause-spares : goal.returns-clause-spares
returns-clause-spares g c told firm =
    keeps_front (recovered_now (g.M.Machine.state c.args.machine.now)) (lines_done g.M.Machine.time g.M.Machine.state c.args.machine.now c.args.lines.now) c.loop-line.line-index _ _
    (c.loop-line.invariant.spares told firm)
