use Rattle.std.proofs.Common.{refl, sym, ◌≡◌, ℕ, List, take, ◌∙◌, ap, subst, Ok, rules}
use Rattle.std.specs.FinMap.{get}
use Rattle.boot_machine.specs.Prelude.{EachSince, Files, on_channel, with_printed, PrintsPart, seen}
use Rattle.boot_machine.specs.declared.machine.Channel.TheVariants.{Out}
use Rattle.boot_run.specs.Lines.{acknowledgement, acknowledgement_in, with_acknowledgement}
use Rattle.command_plans.specs.Prelude.{Performs, end_of}
use Rattle.boot_run.proofs.Acknowledging.{no_memory_yet, not_behind, behind_failed, behind_done}
use Rattle.boot_machine.proofs.Seeing.{sees}
use Rattle.boot_commands.specs.Commands.{LeavesTidied, one_deed}
use Rattle.boot_run.proofs.Staying.{files_stay, input_stays, leaves_none, leaves_rested, leaves_so, no_more_temps, rested_so, rested_stays, temps_stay, where_given, where_none, where_so, where_tidied}
use Rattle.boot_run.proofs.Spared.{one_keeps}
use Rattle.boot_run.proofs.lines.run_numbered.Goals as goal

pub returns-in_err-texts-clause-performs : goal.returns-in_err-texts-clause-performs
returns-in_err-texts-clause-performs g c told firm =
    let old = c.args.machine.now in
    no_memory_yet g.M.Machine.time g.M.Machine.state old
    (with_acknowledgement c.args.number (one_deed (seen (g.M.Machine.state c.args.machine.now)) c.args.command.now)) c.from_residual.result
    c.from_residual.ensures.0 c.from_residual.ensures.1 firm
    (λ m o left. let now = g.met.M.Machine.only_now old m o told left in (sees (g.M.Machine.state old) (g.met.M.Machine.sound old told) firm m now.0, now.1))

pub returns-in_err-outcome-clause-performs : goal.returns-in_err-outcome-clause-performs
returns-in_err-outcome-clause-performs g c told firm =
    let old = c.args.machine.now in
    let deed = one_deed (seen (g.M.Machine.state c.args.machine.now)) c.args.command.now in
    not_behind g.M.Machine.time g.M.Machine.state old deed (acknowledgement deed.outcome c.args.number) c.run_one.new.machine c.in_err-outcome.field-0.0
    c.from_residual-in_err-outcome.result c.from_residual-in_err-outcome.ensures.0 c.from_residual-in_err-outcome.ensures.1 (c.in_err-outcome.ensures.performs told firm)

pub returns-in_err-acknowledge-clause-performs : goal.returns-in_err-acknowledge-clause-performs
returns-in_err-acknowledge-clause-performs g c told firm =
    let old = c.args.machine.now in
    let deed = one_deed (seen (g.M.Machine.state c.args.machine.now)) c.args.command.now in
    let performs : Performs g.M.Machine.time g.M.Machine.state end_of old c.run_one.new.machine deed (Ok c.in_ok-outcome.outcome) = (c.in_ok-outcome.ensures.performs told firm) in
    let ack : acknowledgement_in c.in_ok-texts.texts c.in_ok-outcome.outcome ≡ acknowledgement deed.outcome c.args.number =
    c.in_ok-texts.ensures c.in_ok-outcome.outcome ∙ ap (λ o. acknowledgement o c.args.number) performs.ok.0 in
    behind_failed g.M.Machine.time g.M.Machine.state old deed (acknowledgement deed.outcome c.args.number) c.run_one.new.machine c.acknowledge.new.machine c.in_ok-outcome.outcome
    c.from_residual-in_err-acknowledge.result c.from_residual-in_err-acknowledge.ensures.0 c.from_residual-in_err-acknowledge.ensures.1 performs
    (λ m image. sees (g.M.Machine.state c.run_one.new.machine) (g.met.M.Machine.sound c.run_one.new.machine told) performs.firm m image)
    (subst
    (λ (bytes : List ℕ). EachSince g.M.Machine.time c.run_one.new.machine c.acknowledge.new.machine
    (PrintsPart (g.M.Machine.state c.run_one.new.machine) (on_channel Out bytes))) ack (c.acknowledge.ensures.moments told))
    (subst
    (λ (bytes : List ℕ). (k : ℕ) ×
    (g.M.Machine.state c.acknowledge.new.machine ≡ with_printed Out (take k bytes)
    (g.M.Machine.state c.run_one.new.machine))) ack (c.in_err-acknowledge.ensures.part told))

pub returns-clause-performs : goal.returns-clause-performs
returns-clause-performs g c told firm =
    let old = c.args.machine.now in
    let deed = one_deed (seen (g.M.Machine.state c.args.machine.now)) c.args.command.now in
    let performs : Performs g.M.Machine.time g.M.Machine.state end_of old c.run_one.new.machine deed (Ok c.in_ok-outcome.outcome) = (c.in_ok-outcome.ensures.performs told firm) in
    let ack : acknowledgement_in c.in_ok-texts.texts c.in_ok-outcome.outcome ≡ acknowledgement deed.outcome c.args.number =
    c.in_ok-texts.ensures c.in_ok-outcome.outcome ∙ ap (λ o. acknowledgement o c.args.number) performs.ok.0 in
    behind_done g.M.Machine.time g.M.Machine.state old deed (acknowledgement deed.outcome c.args.number) c.run_one.new.machine c.acknowledge.new.machine c.in_ok-outcome.outcome performs
    (λ m image. sees (g.M.Machine.state c.run_one.new.machine) (g.met.M.Machine.sound c.run_one.new.machine told) performs.firm m image)
    (subst
    (λ (bytes : List ℕ). EachSince g.M.Machine.time c.run_one.new.machine c.acknowledge.new.machine
    (PrintsPart (g.M.Machine.state c.run_one.new.machine) (on_channel Out bytes))) ack (c.acknowledge.ensures.moments told))
    (subst (λ (bytes : List ℕ). g.M.Machine.state c.acknowledge.new.machine ≡ with_printed Out bytes (g.M.Machine.state c.run_one.new.machine)) ack (c.in_ok-acknowledge.ensures.done told))

pub returns-in_err-texts-clause-behaves : goal.returns-in_err-texts-clause-behaves
returns-in_err-texts-clause-behaves g c = record {
  input = λ told. search rules;
  temps = λ told. leaves_none c.from_residual.result (g.M.Machine.state c.args.machine.now) (g.M.Machine.state c.args.machine.now) (λ q temp there. there);
  counted = search rules;
}

pub returns-in_err-outcome-clause-behaves : goal.returns-in_err-outcome-clause-behaves
returns-in_err-outcome-clause-behaves g c = record {
  input = λ told. search rules;
  temps = λ told. leaves_so c.run_one.result c.from_residual-in_err-outcome.result c.in_err-outcome.field-0.0 (g.M.Machine.state c.args.machine.now) (g.M.Machine.state c.run_one.new.machine)
      c.in_err-outcome.was c.from_residual-in_err-outcome.ensures.0 c.from_residual-in_err-outcome.ensures.1 (c.run_one.ensures.behaves.temps told);
  counted = search rules;
}

pub returns-in_err-acknowledge-clause-behaves : goal.returns-in_err-acknowledge-clause-behaves
returns-in_err-acknowledge-clause-behaves g c = record {
  input = λ told. input_stays _ _ (c.acknowledge.ensures.stays told) ∙ c.run_one.ensures.behaves.input told;
  temps = λ told. let now = g.M.Machine.state c.acknowledge.new.machine in
      leaves_none c.from_residual-in_err-acknowledge.result (g.M.Machine.state c.args.machine.now) now
      (no_more_temps (g.M.Machine.state c.args.machine.now) (g.M.Machine.state c.run_one.new.machine) now (c.in_ok-outcome.ensures.behaves.temps told)
      (temps_stay (g.M.Machine.state c.run_one.new.machine) now (files_stay (g.M.Machine.state c.run_one.new.machine) now (c.acknowledge.ensures.stays told))));
  counted = search rules;
}

pub returns-clause-behaves : goal.returns-clause-behaves
returns-clause-behaves g c = record {
  input = λ told. input_stays _ _ (c.acknowledge.ensures.stays told) ∙ c.run_one.ensures.behaves.input told;
  temps = λ told. let now = g.M.Machine.state c.acknowledge.new.machine in
      no_more_temps (g.M.Machine.state c.args.machine.now) (g.M.Machine.state c.run_one.new.machine) now (c.in_ok-outcome.ensures.behaves.temps told)
      (temps_stay (g.M.Machine.state c.run_one.new.machine) now
      (files_stay (g.M.Machine.state c.run_one.new.machine) now (c.acknowledge.ensures.stays told)));
  counted = search rules;
}

pub returns-clause-tidies : goal.returns-clause-tidies
returns-clause-tidies g c told =
    subst (LeavesTidied c.args.command.now) (sym (files_stay _ _ (c.acknowledge.ensures.stays told))) (c.in_ok-outcome.ensures.tidies told)

pub returns-in_err-texts-clause-rests : goal.returns-in_err-texts-clause-rests
returns-in_err-texts-clause-rests g c told = leaves_rested c.from_residual.result (g.M.Machine.state c.args.machine.now) (c.requires.rested told)

pub returns-in_err-outcome-clause-rests : goal.returns-in_err-outcome-clause-rests
returns-in_err-outcome-clause-rests g c told =
    rested_so c.run_one.result c.from_residual-in_err-outcome.result c.in_err-outcome.field-0.0 (g.M.Machine.state c.run_one.new.machine)
    c.in_err-outcome.was c.from_residual-in_err-outcome.ensures.0 c.from_residual-in_err-outcome.ensures.1 (c.run_one.ensures.rests told)

pub returns-in_err-acknowledge-clause-rests : goal.returns-in_err-acknowledge-clause-rests
returns-in_err-acknowledge-clause-rests g c told =
    let now = g.M.Machine.state c.acknowledge.new.machine in
    leaves_rested c.from_residual-in_err-acknowledge.result now
    (rested_stays (g.M.Machine.state c.run_one.new.machine) now (files_stay _ _ (c.acknowledge.ensures.stays told)) (c.in_ok-outcome.ensures.rests told))

pub returns-clause-rests : goal.returns-clause-rests
returns-clause-rests g c told =
    rested_stays (g.M.Machine.state c.run_one.new.machine) (g.M.Machine.state c.acknowledge.new.machine) (files_stay _ _ (c.acknowledge.ensures.stays told)) (c.in_ok-outcome.ensures.rests told)

pub returns-in_err-texts-clause-tidies : goal.returns-in_err-texts-clause-tidies
returns-in_err-texts-clause-tidies g c told = where_none c.from_residual.result (g.M.Machine.state c.args.machine.now) (g.M.Machine.state c.args.machine.now) _ c.from_residual.ensures.0 refl

pub returns-in_err-outcome-clause-tidies : goal.returns-in_err-outcome-clause-tidies
returns-in_err-outcome-clause-tidies g c told =
    let old = g.M.Machine.state c.args.machine.now in
    let now = g.M.Machine.state c.run_one.new.machine in
    where_given c.run_one.result c.from_residual-in_err-outcome.result c.in_err-outcome.field-0.0 old now (LeavesTidied c.args.command.now now.files)
    c.in_err-outcome.was c.from_residual-in_err-outcome.ensures.0 c.from_residual-in_err-outcome.ensures.1 (where_tidied c.run_one.result c.args.command.now old now (c.run_one.ensures.tidies told))

pub returns-in_err-acknowledge-clause-tidies : goal.returns-in_err-acknowledge-clause-tidies
returns-in_err-acknowledge-clause-tidies g c told =
    let now = g.M.Machine.state c.acknowledge.new.machine in
    where_so c.from_residual-in_err-acknowledge.result (g.M.Machine.state c.args.machine.now) now (LeavesTidied c.args.command.now now.files)
    (subst (LeavesTidied c.args.command.now) (sym (files_stay _ _ (c.acknowledge.ensures.stays told))) (c.in_ok-outcome.ensures.tidies told))

-- ---- the temporary files of others

pub returns-in_err-texts-clause-spares : goal.returns-in_err-texts-clause-spares
returns-in_err-texts-clause-spares g c told q temp spared = refl

pub returns-in_err-outcome-clause-spares : goal.returns-in_err-outcome-clause-spares
returns-in_err-outcome-clause-spares g c told =
    one_keeps c.args.command.now (seen (g.M.Machine.state c.args.machine.now)) _ _ (c.run_one.ensures.spares told) (c.run_one.ensures.there told)

pub returns-in_err-acknowledge-clause-spares : goal.returns-in_err-acknowledge-clause-spares
returns-in_err-acknowledge-clause-spares g c told q temp spared =
    ap (λ (files : Files). get files q) (files_stay _ _ (c.acknowledge.ensures.stays told))
    ∙ one_keeps c.args.command.now (seen (g.M.Machine.state c.args.machine.now)) _ _ (c.run_one.ensures.spares told) (c.run_one.ensures.there told) q temp spared

pub returns-clause-spares : goal.returns-clause-spares
returns-clause-spares g c told q temp spared =
    ap (λ (files : Files). get files q) (files_stay _ _ (c.acknowledge.ensures.stays told))
    ∙ one_keeps c.args.command.now (seen (g.M.Machine.state c.args.machine.now)) _ _ (c.run_one.ensures.spares told) (c.run_one.ensures.there told) q temp spared
