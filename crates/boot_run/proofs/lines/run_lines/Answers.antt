use Rattle.std.proofs.Common.{◌≡◌, ◌≢◌, true, inl, inr, ⊎_elim, ◌+◌, ◌||◌, not, List, take, refl, sym, ap, ◌∙◌, subst, rules}
use Rattle.std.proofs.lemmas.Bool.{cases_Bool}
use Rattle.std.proofs.lemmas.List.{take_more, take_all}
use Rattle.std.proofs.lemmas.List.Elements.{All-nil, All-push}
use Rattle.boot_machine.specs.Prelude.{IsRested, recovered_now}
use Rattle.command_plans.specs.declared.outcome.RunError.TheVariants.{Disk}
use Rattle.boot_run.specs.Endings.{AllTidied}
use Rattle.boot_run.specs.Lines.{TidiedBy, has_command, is_unread}
use Rattle.boot_machine.proofs.Elapsing.{at_once}
use Rattle.boot_run.specs.declared.line.Line.{Line}
use Rattle.boot_run.specs.RunBy.{LeavesClean}
use Rattle.boot_run.proofs.Acked.{at_part_with, clean_broken, clean_done, clean_so, rests_but_disk, temps_but_disk}
use Rattle.boot_run.proofs.Spared.{keeps_front, keeps_more}
use Rattle.boot_run.proofs.Staying.{prints_none, leaves_more, leaves_so, lines_later, no_more_temps}
use Rattle.boot_run.proofs.Running.{SoFar, started, goes_on, gives_up}
use Rattle.boot_run.proofs.Synced.{begun_more, first_moments, first_more, first_not, late_moments, late_more, none_begun, synced_done, unread_moments, unread_more, unsynced_yet}
use Rattle.boot_machine.proofs.Seeing.{sees}
use Rattle.boot_run.proofs.lines.run_lines.Goals as goal

pub loop-line-init : goal.loop-line-init
loop-line-init g c = record {
  told = λ told firm. started g.M.Machine.time g.M.Machine.state c.args.machine.now c.args.lines.now firm
      (λ m o left. let now = g.met.M.Machine.only_now c.args.machine.now m o told left in
      (sees (g.M.Machine.state c.args.machine.now) (g.met.M.Machine.sound c.args.machine.now told) firm m now.0, now.1));
  synced = λ told firm. inl (record {
    unread = tt;
    same = prints_none (g.M.Machine.state c.args.machine.now);
    moments =
        at_once g.M.Machine.time g.M.Machine.state _ c.args.machine.now
        (λ m o left. unsynced_yet (g.M.Machine.state c.args.machine.now) c.args.lines.now m o (g.met.M.Machine.only_now c.args.machine.now m o told left));
  });
  begun = refl;
  rests = λ told is. cc;
  tidied = λ told. All-nil (TidiedBy (g.M.Machine.state c.args.machine.now).files);
  input = λ told. refl;
  temps = λ told q temp there. there;
  spares = λ told firm q temp spared. refl;
  counts = refl;
}

pub returns-in_err-outcome-clause-runs : goal.returns-in_err-outcome-clause-runs
returns-in_err-outcome-clause-runs g c told firm =
    let so_far = c.loop-line.invariant.told told firm in
    gives_up _ _ _ _ _ _ _ _ _ c.loop-line-test.true (sym c.line-item.is) so_far
    c.in_err-outcome.field-0.0 c.from_residual.result c.from_residual.ensures.0 c.from_residual.ensures.1 (c.in_err-outcome.ensures.performs told so_far.firm)

pub loop-line-preserved : goal.loop-line-preserved
loop-line-preserved g c = record {
  told = λ told firm.
      let so_far = c.loop-line.invariant.told told firm in
      subst (SoFar g.M.Machine.time g.M.Machine.state c.args.machine.now c.next_line.new.machine c.args.lines.now (c.loop-line.line-index + 1)) (sym c.some_refused-refused.ensures)
      (goes_on _ _ _ _ _ _ _ _ _ c.loop-line-test.true (sym c.line-item.is) so_far
      c.in_ok-outcome.outcome (c.in_ok-outcome.ensures.performs told so_far.firm));
  synced = λ told firm.
      let so_far = c.loop-line.invariant.told told firm in
      let performs = c.in_ok-outcome.ensures.performs told so_far.firm in
      ⊎_elim
      (λ run. elim (cases_Bool (is_unread c.line-item.result)) [
        | inl is ↦ inl (unread_more _ _ _ _ _ _ _ _ _ c.loop-line-test.true (sym c.line-item.is) so_far run is (c.next_line.ensures.only_prints told so_far.firm is))
        | inr is ↦ inr (first_more _ _ _ _ _ _ _ _ _ c.loop-line-test.true (sym c.line-item.is) so_far run is
            (c.in_ok-outcome.ensures.syncs told so_far.firm (c.loop-line.invariant.begun ∙ none_begun (take c.loop-line.line-index c.args.lines.now) run.unread) is).ok)
      ])
      (λ late. inr (late_more _ _ _ _ _ _ _ _ _ c.loop-line-test.true (sym c.line-item.is) so_far late performs.moments))
      (c.loop-line.invariant.synced told firm);
  begun = c.is_begun-rested.ensures ∙ ap (λ b. b || not (is_unread c.line-item.result)) c.loop-line.invariant.begun
      ∙ sym (begun_more c.args.lines.now c.loop-line.line-index c.line-item.result c.loop-line-test.true (sym c.line-item.is));
  rests = λ told is. c.in_ok-outcome.ensures.rests told (sym c.is_begun-rested.ensures ∙ is);
  tidied = λ told.
      let before = g.M.Machine.state c.loop-line.machine in
      let now = g.M.Machine.state c.next_line.new.machine in
      subst (λ (lines : List Line). AllTidied lines now) (sym (take_more c.args.lines.now c.loop-line.line-index c.line-item.result c.loop-line-test.true))
      (All-push (TidiedBy now.files) (take c.loop-line.line-index c.args.lines.now) _
      (lines_later before now (take c.loop-line.line-index c.args.lines.now) (c.in_ok-outcome.ensures.behaves.temps told) (c.loop-line.invariant.tidied told))
      (subst (TidiedBy now.files) c.line-item.is (c.in_ok-outcome.ensures.tidies told)));
  input = λ told. c.next_line.ensures.behaves.input told ∙ c.loop-line.invariant.input told;
  temps =
      λ told. no_more_temps (g.M.Machine.state c.args.machine.now) (g.M.Machine.state c.loop-line.machine) (g.M.Machine.state c.next_line.new.machine)
      (c.loop-line.invariant.temps told) (c.in_ok-outcome.ensures.behaves.temps told);
  spares = λ told firm.
      let so_far = c.loop-line.invariant.told told firm in
      keeps_more (g.M.Machine.state c.args.machine.now) (g.M.Machine.state c.loop-line.machine) (g.M.Machine.state c.next_line.new.machine) c.args.lines.now c.loop-line.line-index
      c.line-item.result c.loop-line-test.true (sym c.line-item.is) so_far.all.state (c.loop-line.invariant.spares told firm) (c.next_line.ensures.spares told so_far.firm);
  counts = c.in_ok-outcome.ensures.behaves.counted ∙ c.loop-line.invariant.counts;
}

pub returns-in_err-outcome-clause-synced : goal.returns-in_err-outcome-clause-synced
returns-in_err-outcome-clause-synced g c told firm =
    let so_far = c.loop-line.invariant.told told firm in
    let performs = c.in_err-outcome.ensures.performs told so_far.firm in
    ⊎_elim
    (λ run. elim (cases_Bool (is_unread c.line-item.result)) [
      | inl is ↦ inl (unread_moments _ _ _ _ _ _ _ _ _ c.loop-line-test.true (sym c.line-item.is) so_far run is (c.next_line.ensures.only_prints told so_far.firm is))
      | inr is ↦ ⊎_elim
          (λ reads. inl (first_not _ _ _ _ _ _ _ _ _ c.loop-line-test.true (sym c.line-item.is) so_far run reads))
          (λ syncs. inr (first_moments _ _ _ _ _ _ _ _ _ c.loop-line-test.true (sym c.line-item.is) so_far run syncs))
          (c.in_err-outcome.ensures.syncs told so_far.firm (c.loop-line.invariant.begun ∙ none_begun (take c.loop-line.line-index c.args.lines.now) run.unread) is).err
    ])
    (λ late. inr (late_moments _ _ _ _ _ _ _ _ _ c.loop-line-test.true (sym c.line-item.is) so_far late performs.moments))
    (c.loop-line.invariant.synced told firm)

pub returns-clause-synced : goal.returns-clause-synced
returns-clause-synced g c told firm =
    synced_done g.M.Machine.time g.M.Machine.state c.args.machine.now c.loop-line.machine c.args.lines.now c.loop-line.line-index
    (c.loop-line.invariant.synced told firm)

pub returns-clause-rests : goal.returns-clause-rests
returns-clause-rests g c told is =
    c.loop-line.invariant.rests told (c.loop-line.invariant.begun ∙ ap has_command (take_all c.loop-line.line-index c.args.lines.now c.loop-line-test.false) ∙ is)

pub returns-in_err-outcome-clause-behaves : goal.returns-in_err-outcome-clause-behaves
returns-in_err-outcome-clause-behaves g c = record {
  input = λ told. c.next_line.ensures.behaves.input told ∙ c.loop-line.invariant.input told;
  temps =
      λ told. leaves_more c.from_residual.result (g.M.Machine.state c.args.machine.now) (g.M.Machine.state c.loop-line.machine)
      (g.M.Machine.state c.next_line.new.machine) (c.loop-line.invariant.temps told)
      (leaves_so c.next_line.result c.from_residual.result c.in_err-outcome.field-0.0 (g.M.Machine.state c.loop-line.machine) (g.M.Machine.state c.next_line.new.machine)
      c.in_err-outcome.was c.from_residual.ensures.0 c.from_residual.ensures.1 (c.next_line.ensures.behaves.temps told));
  counted = search rules;
}

pub returns-clause-tidies : goal.returns-clause-tidies
returns-clause-tidies g c told =
    subst (λ (lines : List Line). AllTidied lines (g.M.Machine.state c.loop-line.machine)) (take_all c.loop-line.line-index c.args.lines.now c.loop-line-test.false) (c.loop-line.invariant.tidied told)

pub returns-in_err-outcome-clause-behind : goal.returns-in_err-outcome-clause-behind
returns-in_err-outcome-clause-behind g c told firm =
    let so_far = c.loop-line.invariant.told told firm in
    let before = g.M.Machine.state c.loop-line.machine in
    let now = g.M.Machine.state c.next_line.new.machine in
    let stop = c.in_err-outcome.field-0.0 in
    let done = take c.loop-line.line-index c.args.lines.now in
    let tidied : stop ≢ Disk → AllTidied done now =
    λ other. lines_later before now done (temps_but_disk stop before now other (c.in_err-outcome.ensures.behaves.temps told))
    (c.loop-line.invariant.tidied told) in
    clean_so (g.M.Machine.state c.args.machine.now) now c.args.lines.now c.from_residual.result stop c.from_residual.ensures.0 c.from_residual.ensures.1
    (clean_broken _ _ _ _ _ _ _ _ _ c.loop-line-test.true (sym c.line-item.is) so_far
    stop (c.in_err-outcome.ensures.performs told so_far.firm)
    (λ other. record {
      tidied = tidied other;
      rested = λ is. rests_but_disk stop now other (c.in_err-outcome.ensures.still told (c.loop-line.invariant.begun ∙ is));
    })
    (at_part_with stop before now (TidiedBy now.files c.line-item.result)
    ((c.loop-line.rested || not (is_unread c.line-item.result)) ≡ true → IsRested now) (AllTidied done now) (LeavesClean
    (take (c.loop-line.line-index + 1) c.args.lines.now) now) tidied
    (λ all this rests. record {
      tidied = subst (λ (lines : List Line). AllTidied lines now) (sym (take_more c.args.lines.now c.loop-line.line-index c.line-item.result c.loop-line-test.true))
          (All-push (TidiedBy now.files) done _ all (subst (TidiedBy now.files) c.line-item.is this));
      rested = λ is. rests (ap (λ b. b || not (is_unread c.line-item.result)) c.loop-line.invariant.begun
          ∙ sym (begun_more c.args.lines.now c.loop-line.line-index c.line-item.result c.loop-line-test.true (sym c.line-item.is)) ∙ is);
    })
    (c.in_err-outcome.ensures.tidies told) (c.in_err-outcome.ensures.rests told)))

pub returns-clause-behind : goal.returns-clause-behind
returns-clause-behind g c told firm =
    let now = g.M.Machine.state c.loop-line.machine in
    clean_done (g.M.Machine.state c.args.machine.now) now c.args.lines.now c.loop-line.refused
    (subst (λ (lines : List Line). LeavesClean lines now) (take_all c.loop-line.line-index c.args.lines.now c.loop-line-test.false)
    (record { tidied = c.loop-line.invariant.tidied told; rested = λ is. c.loop-line.invariant.rests told (c.loop-line.invariant.begun ∙ is) }))

pub returns-in_err-outcome-clause-spares : goal.returns-in_err-outcome-clause-spares
returns-in_err-outcome-clause-spares g c told firm =
    let old = g.M.Machine.state c.args.machine.now in
    let so_far = c.loop-line.invariant.told told firm in
    keeps_front (recovered_now old) c.args.lines.now (c.loop-line.line-index + 1) _ _
    (keeps_more old (g.M.Machine.state c.loop-line.machine) (g.M.Machine.state c.next_line.new.machine) c.args.lines.now c.loop-line.line-index
    c.line-item.result c.loop-line-test.true (sym c.line-item.is) so_far.all.state (c.loop-line.invariant.spares told firm) (c.next_line.ensures.spares told so_far.firm))

pub returns-clause-spares : goal.returns-clause-spares
returns-clause-spares g c told firm =
    keeps_front (recovered_now (g.M.Machine.state c.args.machine.now)) c.args.lines.now c.loop-line.line-index _ _ (c.loop-line.invariant.spares told firm)
