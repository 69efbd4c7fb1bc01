use Rattle.std.proofs.Common.{ap, sym, subst, ◌∙◌, rules}
use Rattle.boot_machine.specs.Prelude.{recovered_now, seen}
use Rattle.boot_run.specs.Lines.{TidiedBy, is_unread, line_deed}
use Rattle.boot_run.specs.RunsTo.{OnlyPrints, WherePrinted}
use Rattle.boot_run.specs.Spared.{LineKeeps}
use Rattle.command_plans.specs.Prelude.{Performs, end_of}
use Rattle.boot_run.proofs.Recovering.{performed_rested}
use Rattle.boot_run.proofs.Staying.{files_stay, input_stays, leaves_none, leaves_rested, rested_stays, temps_stay, where_so, where_tidied}
use Rattle.boot_run.proofs.Spared.{one_keeps, rested_keeps, same_keeps}
use Rattle.boot_run.proofs.lines.run_line.Goals as goal

pub returns-in-Plain-clause-performs : goal.returns-in-Plain-clause-performs
returns-in-Plain-clause-performs g c told firm =
    performed_rested g.M.Machine.time g.M.Machine.state c.args.machine.now c.run_one.new.machine c.args.line.now c.run_one.result (c.requires.rested told (ap is_unread c.in-Plain.is))
    (subst
    (λ line. Performs g.M.Machine.time g.M.Machine.state end_of c.args.machine.now c.run_one.new.machine
    (line_deed (seen (g.M.Machine.state c.args.machine.now)) line) c.run_one.result) (sym c.in-Plain.is) (c.run_one.ensures.performs told firm))

pub returns-in-Part-clause-performs : goal.returns-in-Part-clause-performs
returns-in-Part-clause-performs g c told firm =
    performed_rested g.M.Machine.time g.M.Machine.state c.args.machine.now c.run_action.new.machine c.args.line.now c.run_action.result (c.requires.rested told (ap is_unread c.in-Part.is))
    (subst
    (λ line. Performs g.M.Machine.time g.M.Machine.state end_of c.args.machine.now c.run_action.new.machine
    (line_deed (seen (g.M.Machine.state c.args.machine.now)) line) c.run_action.result) (sym c.in-Part.is) (c.run_action.ensures.performs told firm))

pub returns-in-Numbered-clause-performs : goal.returns-in-Numbered-clause-performs
returns-in-Numbered-clause-performs g c told firm =
    performed_rested g.M.Machine.time g.M.Machine.state c.args.machine.now c.run_numbered.new.machine c.args.line.now c.run_numbered.result (c.requires.rested told (ap is_unread c.in-Numbered.is))
    (subst
    (λ line. Performs g.M.Machine.time g.M.Machine.state end_of c.args.machine.now c.run_numbered.new.machine
    (line_deed (seen (g.M.Machine.state c.args.machine.now))
    line) c.run_numbered.result) (sym c.in-Numbered.is) (c.run_numbered.ensures.performs told firm))

pub returns-in-Plain-clause-only_prints : goal.returns-in-Plain-clause-only_prints
returns-in-Plain-clause-only_prints g c told firm is = cc (sym (ap is_unread c.in-Plain.is) ∙ is)

pub returns-in-Part-clause-only_prints : goal.returns-in-Part-clause-only_prints
returns-in-Part-clause-only_prints g c told firm is = cc (sym (ap is_unread c.in-Part.is) ∙ is)

pub returns-in-Numbered-clause-only_prints : goal.returns-in-Numbered-clause-only_prints
returns-in-Numbered-clause-only_prints g c told firm is = cc (sym (ap is_unread c.in-Numbered.is) ∙ is)

pub returns-in-Unread-clause-only_prints : goal.returns-in-Unread-clause-only_prints
returns-in-Unread-clause-only_prints g c told firm is =
    subst
    (λ line. OnlyPrints g.M.Machine.time g.M.Machine.state c.args.machine.now c.unread_line.new.machine
    (line_deed (recovered_now (g.M.Machine.state c.args.machine.now)) line).sent)
    (sym c.in-Unread.is)
    (record { same = c.unread_line.ensures.stays told; moments = c.unread_line.ensures.moments told firm })

pub returns-in-TooLong-clause-only_prints : goal.returns-in-TooLong-clause-only_prints
returns-in-TooLong-clause-only_prints g c told firm is =
    subst
    (λ line. OnlyPrints g.M.Machine.time g.M.Machine.state c.args.machine.now c.too_long.new.machine
    (line_deed (recovered_now (g.M.Machine.state c.args.machine.now)) line).sent)
    (sym c.in-TooLong.is)
    (record { same = c.too_long.ensures.stays told; moments = c.too_long.ensures.moments told })

pub returns-in-Unread-clause-behaves : goal.returns-in-Unread-clause-behaves
returns-in-Unread-clause-behaves g c = record {
  input = λ told. input_stays _ _ (c.unread_line.ensures.stays told);
  temps =
      λ told. leaves_none c.unread_line.result (g.M.Machine.state c.args.machine.now) (g.M.Machine.state c.unread_line.new.machine)
      (temps_stay (g.M.Machine.state c.args.machine.now) (g.M.Machine.state c.unread_line.new.machine) (files_stay _ _ (c.unread_line.ensures.stays told)));
  counted = search rules;
}

pub returns-in-Unread-clause-rests : goal.returns-in-Unread-clause-rests
returns-in-Unread-clause-rests g c told rested =
    leaves_rested c.unread_line.result (g.M.Machine.state c.unread_line.new.machine)
    (rested_stays (g.M.Machine.state c.args.machine.now) (g.M.Machine.state c.unread_line.new.machine)
    (files_stay _ _ (c.unread_line.ensures.stays told)) rested)

pub returns-in-TooLong-clause-behaves : goal.returns-in-TooLong-clause-behaves
returns-in-TooLong-clause-behaves g c = record {
  input = λ told. input_stays _ _ (c.too_long.ensures.stays told);
  temps =
      λ told. leaves_none c.too_long.result (g.M.Machine.state c.args.machine.now) (g.M.Machine.state c.too_long.new.machine)
      (temps_stay (g.M.Machine.state c.args.machine.now) (g.M.Machine.state c.too_long.new.machine) (files_stay _ _ (c.too_long.ensures.stays told)));
  counted = search rules;
}

pub returns-in-TooLong-clause-rests : goal.returns-in-TooLong-clause-rests
returns-in-TooLong-clause-rests g c told rested =
    leaves_rested c.too_long.result (g.M.Machine.state c.too_long.new.machine)
    (rested_stays (g.M.Machine.state c.args.machine.now) (g.M.Machine.state c.too_long.new.machine) (files_stay _ _ (c.too_long.ensures.stays told)) rested)

pub returns-in-Plain-clause-tidies : goal.returns-in-Plain-clause-tidies
returns-in-Plain-clause-tidies g c told =
    let old = g.M.Machine.state c.args.machine.now in
    let now = g.M.Machine.state c.run_one.new.machine in
    subst (λ line. WherePrinted c.run_one.result old now (TidiedBy now.files line)) (sym c.in-Plain.is)
    (where_tidied c.run_one.result c.in-Plain.command old now (c.run_one.ensures.tidies told))

pub returns-in-Part-clause-tidies : goal.returns-in-Part-clause-tidies
returns-in-Part-clause-tidies g c told =
    let old = g.M.Machine.state c.args.machine.now in
    let now = g.M.Machine.state c.run_action.new.machine in
    subst (λ line. WherePrinted c.run_action.result old now (TidiedBy now.files line)) (sym c.in-Part.is)
    (where_so c.run_action.result old now Unit tt)

pub returns-in-Numbered-clause-tidies : goal.returns-in-Numbered-clause-tidies
returns-in-Numbered-clause-tidies g c told =
    let now = g.M.Machine.state c.run_numbered.new.machine in
    subst (λ line. WherePrinted c.run_numbered.result (g.M.Machine.state c.args.machine.now) now (TidiedBy now.files line)) (sym c.in-Numbered.is) (c.run_numbered.ensures.tidies told)

pub returns-in-Unread-clause-tidies : goal.returns-in-Unread-clause-tidies
returns-in-Unread-clause-tidies g c told =
    let now = g.M.Machine.state c.unread_line.new.machine in
    subst (λ line. WherePrinted c.unread_line.result (g.M.Machine.state c.args.machine.now) now (TidiedBy now.files line)) (sym c.in-Unread.is)
    (where_so c.unread_line.result (g.M.Machine.state c.args.machine.now) now Unit tt)

pub returns-in-TooLong-clause-tidies : goal.returns-in-TooLong-clause-tidies
returns-in-TooLong-clause-tidies g c told =
    let now = g.M.Machine.state c.too_long.new.machine in
    subst (λ line. WherePrinted c.too_long.result (g.M.Machine.state c.args.machine.now) now (TidiedBy now.files line)) (sym c.in-TooLong.is)
    (where_so c.too_long.result (g.M.Machine.state c.args.machine.now) now Unit tt)

-- ---- the temporary files of others

pub returns-in-Plain-clause-spares : goal.returns-in-Plain-clause-spares
returns-in-Plain-clause-spares g c told =
    let old = g.M.Machine.state c.args.machine.now in
    let now = g.M.Machine.state c.run_one.new.machine in
    rested_keeps old now c.args.line.now (c.requires.rested told (ap is_unread c.in-Plain.is))
    (subst (λ line. LineKeeps (seen old) line old.files now.files) (sym c.in-Plain.is)
    (one_keeps c.in-Plain.command (seen old) old.files now.files (c.run_one.ensures.spares told) (c.run_one.ensures.there told)))

pub returns-in-Part-clause-spares : goal.returns-in-Part-clause-spares
returns-in-Part-clause-spares g c told =
    let old = g.M.Machine.state c.args.machine.now in
    let now = g.M.Machine.state c.run_action.new.machine in
    rested_keeps old now c.args.line.now (c.requires.rested told (ap is_unread c.in-Part.is))
    (subst (λ line. LineKeeps (seen old) line old.files now.files) (sym c.in-Part.is) (c.run_action.ensures.spares told))

pub returns-in-Numbered-clause-spares : goal.returns-in-Numbered-clause-spares
returns-in-Numbered-clause-spares g c told =
    let old = g.M.Machine.state c.args.machine.now in
    let now = g.M.Machine.state c.run_numbered.new.machine in
    rested_keeps old now c.args.line.now (c.requires.rested told (ap is_unread c.in-Numbered.is))
    (subst (λ line. LineKeeps (seen old) line old.files now.files) (sym c.in-Numbered.is) (c.run_numbered.ensures.spares told))

pub returns-in-Unread-clause-spares : goal.returns-in-Unread-clause-spares
returns-in-Unread-clause-spares g c told = same_keeps _ c.args.line.now _ _ (files_stay _ _ (c.unread_line.ensures.stays told))

pub returns-in-TooLong-clause-spares : goal.returns-in-TooLong-clause-spares
returns-in-TooLong-clause-spares g c told = same_keeps _ c.args.line.now _ _ (files_stay _ _ (c.too_long.ensures.stays told))
