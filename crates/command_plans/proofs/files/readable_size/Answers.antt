use Rattle.std.proofs.Common.{arith, ◌∙◌}
use Rattle.command_plans.proofs.Sizes.{shown_contents}
use Rattle.command_plans.proofs.Known.{known}
use Rattle.command_plans.proofs.files.readable_size.Goals as goal

pub returns-in-Some-2-clause-file : goal.returns-in-Some-2-clause-file
returns-in-Some-2-clause-file g c told =
    (known (g.M.Machine.state c.args.machine.now) c.args.path.now c.in-Some.size c.know.ensures.lasting
    (c.in_ok-seen_size.ensures.size told ∙ c.in-Some.is) (omega (arith, c.if-size-gt-FILE_LIMIT.false))).bytes

pub returns-in-Some-2-clause-there : goal.returns-in-Some-2-clause-there
returns-in-Some-2-clause-there g c told =
    (known (g.M.Machine.state c.args.machine.now) c.args.path.now c.in-Some.size c.know.ensures.lasting
    (c.in_ok-seen_size.ensures.size told ∙ c.in-Some.is) (omega (arith, c.if-size-gt-FILE_LIMIT.false))).there

pub returns-in-Some-2-clause-small : goal.returns-in-Some-2-clause-small
returns-in-Some-2-clause-small g c told =
    (known (g.M.Machine.state c.args.machine.now) c.args.path.now c.in-Some.size c.know.ensures.lasting
    (c.in_ok-seen_size.ensures.size told ∙ c.in-Some.is) (omega (arith, c.if-size-gt-FILE_LIMIT.false))).small

pub returns-in-Some-2-clause-size : goal.returns-in-Some-2-clause-size
returns-in-Some-2-clause-size g c told =
    let found = c.in_ok-seen_size.ensures.size told ∙ c.in-Some.is in
    (known (g.M.Machine.state c.args.machine.now) c.args.path.now c.in-Some.size c.know.ensures.lasting found (omega (arith, c.if-size-gt-FILE_LIMIT.false))).long c.in-Some.size found

pub returns-in-Some-2-clause-held : goal.returns-in-Some-2-clause-held
returns-in-Some-2-clause-held g c told = shown_contents (g.M.Machine.state c.args.machine.now) c.args.path.now c.know.ensures.lasting
