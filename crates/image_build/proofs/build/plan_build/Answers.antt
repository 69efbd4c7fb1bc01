use Rattle.std.proofs.Common.{Result, subst, sym, rules}
use Rattle.boot_base.specs.declared.refusal.Refusal.{Refusal}
use Rattle.boot_machine.specs.Prelude.{TakesAtMost, seen}
use Rattle.image_build.specs.Building.{NamedFiles}
use Rattle.image_build.specs.Planning.{planning_length}
use Rattle.boot_machine.proofs.Reading.{looks_none}
use Rattle.image_build.proofs.Planning.{word_error_as, word_error_plan, not_word_error}
use Rattle.image_build.proofs.Taken.{idle_none}
use Rattle.image_build.proofs.build.plan_build.Goals as goal

pub returns-in-Ok-clause-word_error : goal.returns-in-Ok-clause-word_error
returns-in-Ok-clause-word_error g c why is = absurd (not_word_error c.args.words.now c.in-Ok.sources why c.in-Ok.ensures.means is)

pub returns-in_err-plan_word_error-in-Err-clause-looks : goal.returns-in_err-plan_word_error-in-Err-clause-looks
returns-in_err-plan_word_error-in-Err-clause-looks g c = looks_none (g.met.M.Machine.only_now c.args.machine.now) (search rules)

pub returns-in_ok-plan_word_error-in-Err-clause-looks : goal.returns-in_ok-plan_word_error-in-Err-clause-looks
returns-in_ok-plan_word_error-in-Err-clause-looks g c = looks_none (g.met.M.Machine.only_now c.args.machine.now) (search rules)

pub returns-in_ok-plan_word_error-in-Err-clause-plans : goal.returns-in_ok-plan_word_error-in-Err-clause-plans
returns-in_ok-plan_word_error-in-Err-clause-plans g c told =
    word_error_plan (g.M.Machine.state c.args.machine.now) c.args.words.now c.in-Err.word_error c.in_ok-plan_word_error-in-Err.field-0 c.in-Err.ensures.means c.in_ok-plan_word_error-in-Err.ensures.plans

pub returns-in_ok-plan_word_error-in-Err-clause-word_error : goal.returns-in_ok-plan_word_error-in-Err-clause-word_error
returns-in_ok-plan_word_error-in-Err-clause-word_error g c why is =
    word_error_as c.args.words.now c.in-Err.word_error why c.in_ok-plan_word_error-in-Err.field-0 is c.in-Err.ensures.means c.in_ok-plan_word_error-in-Err.ensures.plans

pub returns-in-Ok-clause-taken : goal.returns-in-Ok-clause-taken
returns-in-Ok-clause-taken g c told =
    subst
    (λ (r : Result NamedFiles Refusal). TakesAtMost (planning_length (seen (g.M.Machine.state c.args.machine.now)) c.args.words.now.measure r)
    (g.M.Machine.taken c.args.machine.now) (g.M.Machine.taken c.plan_sources.new.machine))
    (sym c.in-Ok.ensures.means) (c.plan_sources.ensures.taken told)

pub returns-in_ok-plan_word_error-in-Err-clause-writes : goal.returns-in_ok-plan_word_error-in-Err-clause-writes
returns-in_ok-plan_word_error-in-Err-clause-writes g c told =
    idle_none (seen (g.M.Machine.state c.args.machine.now)) c.in_ok-plan_word_error-in-Err.field-0.change _ c.in_ok-plan_word_error-in-Err.ensures.idle
