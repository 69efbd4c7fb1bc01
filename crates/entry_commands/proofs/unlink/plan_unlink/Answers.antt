use Rattle.std.proofs.Common.{rules}
use Rattle.boot_machine.specs.Prelude.{seen}
use Rattle.boot_machine.proofs.Reading.{looks_none}
use Rattle.command_plans.specs.Prelude.{unlink_answer}
use Rattle.entry_commands.specs.Unlinking.{entry_path}
use Rattle.entry_commands.proofs.WordError.{plans_unless, refuses_at_once}
use Rattle.entry_commands.proofs.unlink.plan_unlink.Goals as goal

pub returns-in-Err-clause-plans : goal.returns-in-Err-clause-plans
returns-in-Err-clause-plans g c =
    let s = g.M.Machine.state c.args.machine.now in
    plans_unless (entry_path c.args.name.now c.args.esp.now) c.in-Err.word_error c.from.result c.plan_read_error.result _ s
    (unlink_answer (seen s)) c.from.ensures c.in-Err.ensures c.plan_read_error.ensures.plans

pub returns-in-Err-clause-words : goal.returns-in-Err-clause-words
returns-in-Err-clause-words g c =
    refuses_at_once (entry_path c.args.name.now c.args.esp.now) c.in-Err.word_error c.from.result c.plan_read_error.result c.from.ensures c.in-Err.ensures c.plan_read_error.ensures.plans

pub returns-in-Err-clause-looks : goal.returns-in-Err-clause-looks
returns-in-Err-clause-looks g c = looks_none (g.met.M.Machine.only_now c.args.machine.now) (search rules)
