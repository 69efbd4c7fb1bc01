use Rattle.std.proofs.Common.{◌∙◌, refl, subst, rules}
use Rattle.boot_machine.specs.Prelude.{Files, IsRested, recovered_now}
use Rattle.command_plans.specs.Prelude.{Performs, end_of}
use Rattle.boot_run.specs.Lines.{line_deed}
use Rattle.boot_run.specs.Spared.{LineKeeps}
use Rattle.boot_run.proofs.Recovering.{performed_after, performed_failed, synced_after, synced_failed}
use Rattle.boot_run.proofs.Spared.{behind_keeps}
use Rattle.boot_run.proofs.Staying.{leaves_more, leaves_none, where_more, where_none, where_rested}
use Rattle.boot_run.proofs.Synced.{command_settles}
use Rattle.boot_run.proofs.lines.first_command.Goals as goal

pub returns-in_err-recover_rename-clause-performs : goal.returns-in_err-recover_rename-clause-performs
returns-in_err-recover_rename-clause-performs g c told firm =
    performed_failed g.M.Machine.time g.M.Machine.state c.args.machine.now c.recover_rename.new.machine
    (line_deed (recovered_now (g.M.Machine.state c.args.machine.now)) c.args.line.now) c.from_residual.result c.from_residual.ensures.0
    (g.met.M.Machine.sound c.args.machine.now told) firm (c.recover_rename.ensures.recovers told firm) (c.recover_rename.ensures.keeps told).printed

pub returns-in_err-recover_rename-clause-syncs : goal.returns-in_err-recover_rename-clause-syncs
returns-in_err-recover_rename-clause-syncs g c told firm =
    synced_failed g.M.Machine.time g.M.Machine.state c.args.machine.now c.recover_rename.new.machine
    (line_deed (recovered_now (g.M.Machine.state c.args.machine.now)) c.args.line.now) c.from_residual.result c.from_residual.ensures.0
    (c.recover_rename.ensures.recovers told firm)

pub returns-in_err-recover_rename-clause-behaves : goal.returns-in_err-recover_rename-clause-behaves
returns-in_err-recover_rename-clause-behaves g c = record {
  input = λ told. (c.recover_rename.ensures.keeps told).input;
  temps = λ told. leaves_none c.from_residual.result (g.M.Machine.state c.args.machine.now) (g.M.Machine.state c.recover_rename.new.machine) (c.recover_rename.ensures.temps told);
  counted = search rules;
}

pub returns-clause-performs : goal.returns-clause-performs
returns-clause-performs g c told firm =
    let old = c.args.machine.now in
    let recovers = c.recover_rename.ensures.recovers told firm in
    let performs =
    subst
    (λ (v : Files). Performs g.M.Machine.time g.M.Machine.state end_of c.recover_rename.new.machine c.run_line.new.machine
    (line_deed v c.args.line.now) c.run_line.result)
    recovers.files (c.run_line.ensures.performs told recovers.firm) in
    performed_after g.M.Machine.time g.M.Machine.state old c.recover_rename.new.machine c.run_line.new.machine (line_deed (recovered_now (g.M.Machine.state old)) c.args.line.now)
    (command_settles (recovered_now (g.M.Machine.state old)) c.args.line.now c.requires.command)
    (g.met.M.Machine.sound old told) firm recovers (c.in_ok-recover_rename.ensures.one told) (c.recover_rename.ensures.keeps told).printed c.run_line.result performs

pub returns-clause-syncs : goal.returns-clause-syncs
returns-clause-syncs g c told firm =
    let old = c.args.machine.now in
    let recovers = c.recover_rename.ensures.recovers told firm in
    let performs =
    subst
    (λ (v : Files). Performs g.M.Machine.time g.M.Machine.state end_of c.recover_rename.new.machine c.run_line.new.machine
    (line_deed v c.args.line.now) c.run_line.result)
    recovers.files (c.run_line.ensures.performs told recovers.firm) in
    synced_after g.M.Machine.time g.M.Machine.state old c.recover_rename.new.machine c.run_line.new.machine (line_deed (recovered_now (g.M.Machine.state old)) c.args.line.now)
    (command_settles (recovered_now (g.M.Machine.state old)) c.args.line.now c.requires.command)
    (g.met.M.Machine.sound old told) firm recovers (c.in_ok-recover_rename.ensures.one told) (c.recover_rename.ensures.keeps told).printed c.run_line.result
    (c.in_ok-recover_rename.ensures.synced told firm) performs.moments

pub returns-clause-behaves : goal.returns-clause-behaves
returns-clause-behaves g c = record {
  input = λ told. c.run_line.ensures.behaves.input told ∙ (c.recover_rename.ensures.keeps told).input;
  temps =
      λ told. leaves_more c.run_line.result (g.M.Machine.state c.args.machine.now) (g.M.Machine.state c.recover_rename.new.machine)
      (g.M.Machine.state c.run_line.new.machine) (c.recover_rename.ensures.temps told) (c.run_line.ensures.behaves.temps told);
  counted = search rules;
}

pub returns-in_err-recover_rename-clause-tidies : goal.returns-in_err-recover_rename-clause-tidies
returns-in_err-recover_rename-clause-tidies g c told =
    where_none c.from_residual.result (g.M.Machine.state c.args.machine.now) (g.M.Machine.state c.recover_rename.new.machine) _
    c.from_residual.ensures.0 (c.recover_rename.ensures.keeps told).printed

pub returns-in_err-recover_rename-clause-rests : goal.returns-in_err-recover_rename-clause-rests
returns-in_err-recover_rename-clause-rests g c told =
    where_none c.from_residual.result (g.M.Machine.state c.args.machine.now) (g.M.Machine.state c.recover_rename.new.machine) _
    c.from_residual.ensures.0 (c.recover_rename.ensures.keeps told).printed

pub returns-clause-tidies : goal.returns-clause-tidies
returns-clause-tidies g c told =
    where_more c.run_line.result (g.M.Machine.state c.args.machine.now) (g.M.Machine.state c.recover_rename.new.machine)
    (g.M.Machine.state c.run_line.new.machine) _ _ (c.recover_rename.ensures.keeps told).printed (λ p. p) (c.run_line.ensures.tidies told)

pub returns-clause-rests : goal.returns-clause-rests
returns-clause-rests g c told =
    let mid = g.M.Machine.state c.recover_rename.new.machine in
    let now = g.M.Machine.state c.run_line.new.machine in
    where_more c.run_line.result (g.M.Machine.state c.args.machine.now) mid now (IsRested now) (IsRested now) (c.recover_rename.ensures.keeps told).printed (λ p. p)
    (where_rested c.run_line.result mid now (c.run_line.ensures.rests told (c.in_ok-recover_rename.ensures.rests told)))

-- ---- the temporary files of others

pub returns-in_err-recover_rename-clause-spares : goal.returns-in_err-recover_rename-clause-spares
returns-in_err-recover_rename-clause-spares g c told firm q temp spared = c.recover_rename.ensures.spares told q temp refl

pub returns-clause-spares : goal.returns-clause-spares
returns-clause-spares g c told firm =
    let old = g.M.Machine.state c.args.machine.now in
    let mid = g.M.Machine.state c.recover_rename.new.machine in
    let now = g.M.Machine.state c.run_line.new.machine in
    behind_keeps (recovered_now old) c.args.line.now old.files mid.files now.files (c.recover_rename.ensures.spares told)
    (subst (λ (v : Files). LineKeeps v c.args.line.now mid.files now.files) (c.recover_rename.ensures.recovers told firm).files (c.run_line.ensures.spares told))
