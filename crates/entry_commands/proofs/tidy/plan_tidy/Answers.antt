use Rattle.std.proofs.Common.{Result, rules, subst, sym, All, IfOk, IsTrue}
use Rattle.boot_base.specs.declared.refusal.Refusal.{Refusal}
use Rattle.boot_entries.specs.declared.folders.Folders.{Folders}
use Rattle.boot_machine.specs.Prelude.{seen}
use Rattle.boot_machine.proofs.Reading.{looks_none}
use Rattle.command_plans.specs.Prelude.{folders_of, own_temps}
use Rattle.entry_commands.specs.Tidying.{StandsAt, tidy_answer}
use Rattle.entry_commands.proofs.WordError.{plans_unless, refuses_at_once, tidied_unless, within_unless}
use Rattle.entry_commands.proofs.tidy.plan_tidy.Goals as goal

pub returns-in-Err-clause-plans : goal.returns-in-Err-clause-plans
returns-in-Err-clause-plans g c =
    let s = g.M.Machine.state c.args.machine.now in
    plans_unless (folders_of c.args.esp.now) c.in-Err.word_error c.from.result c.plan_read_error.result _ s (tidy_answer (seen s)) c.from.ensures c.in-Err.ensures c.plan_read_error.ensures.plans

pub returns-in-Err-clause-tidies : goal.returns-in-Err-clause-tidies
returns-in-Err-clause-tidies g c =
    tidied_unless (folders_of c.args.esp.now) c.in-Err.word_error c.from.result c.plan_read_error.result _
    (g.M.Machine.state c.args.machine.now).files c.from.ensures c.in-Err.ensures c.plan_read_error.ensures.plans

pub returns-in-Err-clause-words : goal.returns-in-Err-clause-words
returns-in-Err-clause-words g c =
    refuses_at_once (folders_of c.args.esp.now) c.in-Err.word_error c.from.result c.plan_read_error.result c.from.ensures c.in-Err.ensures c.plan_read_error.ensures.plans

pub returns-in-Err-clause-looks : goal.returns-in-Err-clause-looks
returns-in-Err-clause-looks g c = looks_none (g.met.M.Machine.only_now c.args.machine.now) (search rules)

pub returns-in-Err-clause-within : goal.returns-in-Err-clause-within
returns-in-Err-clause-within g c =
    within_unless (folders_of c.args.esp.now) c.in-Err.word_error c.from.result c.plan_read_error.result _ (g.M.Machine.state c.args.machine.now) c.from.ensures c.plan_read_error.ensures.plans

pub returns-in-Ok-clause-within : goal.returns-in-Ok-clause-within
returns-in-Ok-clause-within g c =
    subst (λ (read : Result Folders Refusal). IfOk c.tidy.result (λ plan. IsTrue g.M.Machine.tells → All (StandsAt read) (own_temps plan.change))) (sym c.in-Ok.ensures) c.tidy.ensures.within
