use Rattle.boot_machine.proofs.Reading.{looks_on}
use Rattle.std.proofs.Common.{◌∙◌, rules}
use Rattle.boot_machine.specs.Prelude.{seen}
use Rattle.image_build.proofs.Planning.{build_by_name, meant_plan}
use Rattle.image_build.proofs.Taken.{planning, written_of}
use Rattle.image_build.proofs.build.plan_or_read_error.Goals as goal

pub returns-in_err-text-clause-looks : goal.returns-in_err-text-clause-looks
returns-in_err-text-clause-looks g c = looks_on c.planned_build.ensures.looks c.reply.ensures.looks (search rules)

pub returns-in_err-writing_plan-clause-looks : goal.returns-in_err-writing_plan-clause-looks
returns-in_err-writing_plan-clause-looks g c = looks_on c.planned_build.ensures.looks c.reply.ensures.looks (search rules)

pub returns-clause-plans : goal.returns-clause-plans
returns-clause-plans g c told =
    meant_plan (g.M.Machine.state c.args.machine.now) (g.M.Machine.state c.planned_build.new.machine) c.args.words.now c.in_ok-build.build
    c.in_ok-writing_plan.field-0 c.in_ok-text.text.items (c.planned_build.ensures.looks.reads told).same
    (build_by_name (seen (g.M.Machine.state c.args.machine.now)) c.args.words.now c.args.sources c.requires.named ∙ c.in_ok-build.ensures.says told)
    (c.in_ok-build.ensures.planned told) (c.in_ok-text.ensures.says told) c.in_ok-writing_plan.ensures.plans

pub returns-clause-looks : goal.returns-clause-looks
returns-clause-looks g c = looks_on c.planned_build.ensures.looks c.reply.ensures.looks (search rules)

pub planned_build-requires : goal.planned_build-requires
planned_build-requires g c = record { named = (c.args.words.now, c.requires.named) }

pub returns-in_err-text-clause-taken : goal.returns-in_err-text-clause-taken
returns-in_err-text-clause-taken g c told =
    planning (g.M.Machine.state c.args.machine.now) (g.M.Machine.state c.planned_build.new.machine) c.args.words.now.measure c.args.sources
    c.in_ok-build.build _ _ _ (c.planned_build.ensures.looks.reads told).same
    (c.in_ok-build.ensures.says told) (c.in_ok-build.ensures.planned told) (c.planned_build.ensures.taken told) (c.reply.ensures.taken told)

pub returns-in_err-writing_plan-clause-taken : goal.returns-in_err-writing_plan-clause-taken
returns-in_err-writing_plan-clause-taken g c told =
    planning (g.M.Machine.state c.args.machine.now) (g.M.Machine.state c.planned_build.new.machine) c.args.words.now.measure c.args.sources
    c.in_ok-build.build _ _ _ (c.planned_build.ensures.looks.reads told).same
    (c.in_ok-build.ensures.says told) (c.in_ok-build.ensures.planned told) (c.planned_build.ensures.taken told) (c.reply.ensures.taken told)

pub returns-clause-taken : goal.returns-clause-taken
returns-clause-taken g c told =
    planning (g.M.Machine.state c.args.machine.now) (g.M.Machine.state c.planned_build.new.machine) c.args.words.now.measure c.args.sources
    c.in_ok-build.build _ _ _ (c.planned_build.ensures.looks.reads told).same
    (c.in_ok-build.ensures.says told) (c.in_ok-build.ensures.planned told) (c.planned_build.ensures.taken told) (c.reply.ensures.taken told)

pub returns-clause-writes : goal.returns-clause-writes
returns-clause-writes g c told =
    written_of (g.M.Machine.state c.args.machine.now) (g.M.Machine.state c.planned_build.new.machine) c.args.words.now c.in_ok-build.build c.in_ok-writing_plan.field-0.change
    (build_by_name (seen (g.M.Machine.state c.args.machine.now)) c.args.words.now c.args.sources c.requires.named ∙ c.in_ok-build.ensures.says told)
    (c.in_ok-build.ensures.planned told) c.in_ok-writing_plan.ensures.writes
