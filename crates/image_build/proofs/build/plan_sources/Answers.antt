use Rattle.boot_machine.specs.Prelude.{seen}
use Rattle.image_build.proofs.Planning.{ok_weaker, read_error_plan}
use Rattle.image_build.proofs.Taken.{idle_none}
use Rattle.image_build.proofs.build.plan_sources.Goals as goal

pub returns-in-Err-clause-plans : goal.returns-in-Err-clause-plans
returns-in-Err-clause-plans g c =
    ok_weaker c.plan_read_error.result
    (λ plan plans told. read_error_plan (g.M.Machine.state c.args.machine.now) c.args.words.now c.args.sources c.in-Err.read_error plan c.requires.named (c.in-Err.ensures.read_error told) plans)
    c.plan_read_error.ensures.plans

pub returns-in-Err-clause-writes : goal.returns-in-Err-clause-writes
returns-in-Err-clause-writes g c = ok_weaker c.plan_read_error.result (λ plan idle told. idle_none (seen (g.M.Machine.state c.args.machine.now)) plan.change _ idle) c.plan_read_error.ensures.idle
