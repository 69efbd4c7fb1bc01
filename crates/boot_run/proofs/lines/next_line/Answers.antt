use Rattle.std.proofs.Common.{refl}
use Rattle.boot_machine.specs.Prelude.{IsRested}
use Rattle.boot_run.proofs.Staying.{where_more}
use Rattle.boot_run.proofs.lines.next_line.Goals as goal

pub returns-clause-rests : goal.returns-clause-rests
returns-clause-rests g c told =
    let old = g.M.Machine.state c.args.machine.now in
    let now = g.M.Machine.state c.first_command.new.machine in
    where_more c.first_command.result old old now (IsRested now) _ refl (λ rested is. rested) (c.first_command.ensures.rests told)
