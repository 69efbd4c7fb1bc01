use Rattle.std.proofs.Common.{◌≡◌, false, List, refl, sym, ap, ◌∙◌, subst, rules, Ok, All}
use Rattle.boot_machine.specs.Prelude.{Files, recovered_now}
use Rattle.tool_words.specs.declared.command.Command.TheVariants as command
use Rattle.command_plans.specs.declared.outcome.RunError.TheVariants.{Memory as MemoryError}
use Rattle.boot_run.specs.AskedLines.{lines_at}
use Rattle.boot_run.specs.Endings.{ended_by}
use Rattle.boot_run.specs.Lines.{is_unread}
use Rattle.boot_run.specs.RunsTo.{IsSyncedBy, RunsTo}
use Rattle.boot_run.specs.Spared.{AllSpare}
use Rattle.boot_run.specs.UpToRefused.{up_to_refused}
use Rattle.boot_run.specs.declared.line.Line.{Line}
use Rattle.boot_run.proofs.Acked.{clean_none}
use Rattle.boot_run.proofs.Expanding.{runs_behind, runs_not, synced_behind, synced_not}
use Rattle.boot_run.proofs.Expansions.{are_commands, begins_at, clean_rested, lines_found, ok_rested, tidied_at}
use Rattle.boot_run.proofs.Staying.{leaves_more, leaves_none}
use Rattle.boot_run.proofs.Taken.{on_ok_any, takes_nothing}
use Rattle.boot_run.proofs.top.run_several.Goals as goal

-- ---- it wasn't found what the command comes to

pub returns-in_err-actions : goal.returns-in_err-actions
returns-in_err-actions g c = record {
  runs = λ told firm.
      let old = c.args.machine.now in
      let found = begins_at (g.M.Machine.state old) c.args.command in
      subst (λ (l : List Line). RunsTo g.M.Machine.time g.M.Machine.state old c.find_actions-actions.new.machine l c.from_residual.result) (sym found.whole)
      (runs_not g.M.Machine.time g.M.Machine.state old c.find_actions-actions.new.machine found.line found.rest c.from_residual.result c.in_err-actions.field-0.0
      c.from_residual.ensures.0 c.from_residual.ensures.1 (g.met.M.Machine.sound old told) firm
      (c.find_actions-actions.ensures.recovers told firm) (c.find_actions-actions.ensures.keeps told).printed);
  synced = λ told firm.
      synced_not g.M.Machine.time g.M.Machine.state c.args.machine.now c.find_actions-actions.new.machine
      (lines_at (g.M.Machine.state c.args.machine.now) (command.Several c.args.command)) (c.find_actions-actions.ensures.recovers told firm);
  tidies = search rules;
  rests = search rules;
  behind = λ told firm.
      clean_none (g.M.Machine.state c.args.machine.now) (g.M.Machine.state c.find_actions-actions.new.machine)
      (lines_at (g.M.Machine.state c.args.machine.now) (command.Several c.args.command)) (ended_by c.from_residual.result) (c.find_actions-actions.ensures.keeps told).printed;
  input = λ told. takes_nothing (Ok (command.Several c.args.command)) _ _ _ refl (c.find_actions-actions.ensures.keeps told).input;
  temps = λ told. leaves_none c.from_residual.result (g.M.Machine.state c.args.machine.now) (g.M.Machine.state c.find_actions-actions.new.machine) (c.find_actions-actions.ensures.temps told);
  spares = λ told firm q temp off spared. c.find_actions-actions.ensures.spares told q temp off;
  counted = search rules;
}

-- ---- there was no memory for the lines of the commands

pub returns-in_err-lines : goal.returns-in_err-lines
returns-in_err-lines g c = record {
  runs = λ told firm.
      let old = c.args.machine.now in
      let found = begins_at (g.M.Machine.state old) c.args.command in
      subst (λ (l : List Line). RunsTo g.M.Machine.time g.M.Machine.state old c.find_actions-actions.new.machine l c.from_residual-in_err-lines.result) (sym found.whole)
      (runs_not g.M.Machine.time g.M.Machine.state old c.find_actions-actions.new.machine found.line found.rest c.from_residual-in_err-lines.result MemoryError
      c.from_residual-in_err-lines.ensures.0 c.from_residual-in_err-lines.ensures.1 (g.met.M.Machine.sound old told) firm
      (c.find_actions-actions.ensures.recovers told firm) (c.find_actions-actions.ensures.keeps told).printed);
  synced = λ told firm.
      synced_not g.M.Machine.time g.M.Machine.state c.args.machine.now c.find_actions-actions.new.machine
      (lines_at (g.M.Machine.state c.args.machine.now) (command.Several c.args.command)) (c.find_actions-actions.ensures.recovers told firm);
  tidies = search rules;
  rests = search rules;
  behind = λ told firm.
      clean_none (g.M.Machine.state c.args.machine.now) (g.M.Machine.state c.find_actions-actions.new.machine)
      (lines_at (g.M.Machine.state c.args.machine.now) (command.Several c.args.command)) (ended_by c.from_residual-in_err-lines.result) (c.find_actions-actions.ensures.keeps told).printed;
  input = λ told. takes_nothing (Ok (command.Several c.args.command)) _ _ _ refl (c.find_actions-actions.ensures.keeps told).input;
  temps =
      λ told. leaves_none c.from_residual-in_err-lines.result (g.M.Machine.state c.args.machine.now)
      (g.M.Machine.state c.find_actions-actions.new.machine) (c.find_actions-actions.ensures.temps told);
  spares = λ told firm q temp off spared. c.find_actions-actions.ensures.spares told q temp off;
  counted = search rules;
}

-- ---- the commands were run

pub run_actions-requires-clause-commands : goal.run_actions-requires-clause-commands
run_actions-requires-clause-commands g c =
    subst (All (λ line. is_unread line ≡ false)) (sym (c.as_slice.ensures.value ∙ c.in_ok-lines.ensures))
    (are_commands c.in_ok-actions.field-0.items)

pub returns : goal.returns
returns g c =
    let old = c.args.machine.now in
    let mid = c.find_actions-actions.new.machine in
    let new = c.run_actions.new.machine in
    let asked = c.args.command in
    let actions = c.in_ok-actions.field-0.items in
    let value = c.as_slice.ensures.value ∙ c.in_ok-lines.ensures in
    let begins = begins_at (g.M.Machine.state old) asked in
    record {
      runs = λ told firm.
          let recovers = c.find_actions-actions.ensures.recovers told firm in
          let stands = c.in_ok-actions.ensures.stands told in
          let lines = ap (up_to_refused (recovered_now (g.M.Machine.state mid))) value
          ∙ lines_found (g.M.Machine.state old) (g.M.Machine.state mid) asked actions (c.in_ok-actions.ensures.rests told) recovers.files stands ∙ begins.whole in
          let runs = subst (λ (l : List Line). RunsTo g.M.Machine.time g.M.Machine.state mid new l c.run_actions.result) lines (c.run_actions.ensures.runs told recovers.firm) in
          subst (λ (l : List Line). RunsTo g.M.Machine.time g.M.Machine.state old new l c.run_actions.result) (sym begins.whole)
          (runs_behind g.M.Machine.time g.M.Machine.state old mid new begins.line begins.rest begins.command (g.met.M.Machine.sound old told) firm recovers
          (c.in_ok-actions.ensures.one told) (c.find_actions-actions.ensures.keeps told).printed c.run_actions.result runs);
      synced = λ told firm.
          let recovers = c.find_actions-actions.ensures.recovers told firm in
          let stands = c.in_ok-actions.ensures.stands told in
          let lines = ap (up_to_refused (recovered_now (g.M.Machine.state mid))) value
          ∙ lines_found (g.M.Machine.state old) (g.M.Machine.state mid) asked actions (c.in_ok-actions.ensures.rests told) recovers.files stands ∙ begins.whole in
          let runs = subst (λ (l : List Line). RunsTo g.M.Machine.time g.M.Machine.state mid new l c.run_actions.result) lines (c.run_actions.ensures.runs told recovers.firm) in
          subst (λ (l : List Line). IsSyncedBy g.M.Machine.time g.M.Machine.state old new l) (sym begins.whole)
          (synced_behind g.M.Machine.time g.M.Machine.state old mid new begins.line begins.rest begins.command (g.met.M.Machine.sound old told) firm recovers
          (c.in_ok-actions.ensures.one told) (c.find_actions-actions.ensures.keeps told).printed c.run_actions.result (c.in_ok-actions.ensures.synced told firm) runs);
      tidies = on_ok_any c.run_actions.result _ (λ told.
          let stands = c.in_ok-actions.ensures.stands told in
          tidied_at (g.M.Machine.state old) (g.M.Machine.state new) asked);
      rests = ok_rested c.run_actions.result (g.M.Machine.state new) _ _ c.run_actions.ensures.rests;
      behind = λ told firm.
          let stands = c.in_ok-actions.ensures.stands told in
          clean_rested (g.M.Machine.state old) (g.M.Machine.state new) (lines_at (g.M.Machine.state old) (command.Several asked)) c.run_actions.result
          (tidied_at (g.M.Machine.state old) (g.M.Machine.state new) asked)
          (c.run_actions.ensures.rests told);
      input = λ told.
          takes_nothing (Ok (command.Several asked)) _ _ _ refl (c.run_actions.ensures.behaves.input told ∙ (c.find_actions-actions.ensures.keeps told).input);
      temps = λ told.
          leaves_more c.run_actions.result (g.M.Machine.state old) (g.M.Machine.state mid) (g.M.Machine.state new)
          (c.find_actions-actions.ensures.temps told) (c.run_actions.ensures.behaves.temps told);
      spares = λ told firm q temp off spared.
          let recovers = c.find_actions-actions.ensures.recovers told firm in
          let lines = ap (up_to_refused (recovered_now (g.M.Machine.state mid))) value
          ∙ lines_found (g.M.Machine.state old) (g.M.Machine.state mid) asked actions (c.in_ok-actions.ensures.rests told) recovers.files (c.in_ok-actions.ensures.stands told) in
          c.run_actions.ensures.spares told recovers.firm q temp
          (subst (λ (l : List Line). AllSpare (recovered_now (g.M.Machine.state mid)) l q) (sym lines)
          (subst (λ (v : Files). AllSpare v (lines_at (g.M.Machine.state old) (command.Several asked)) q) (sym recovers.files) spared))
          ∙ c.find_actions-actions.ensures.spares told q temp off;
      counted = search rules;
    }
