use Rattle.boot_machine.specs.declared.machine.Channel.TheVariants.{Out}
use Rattle.boot_run.proofs.Staying.{prints_by}
use Rattle.boot_run.proofs.lines.acknowledge.Goals as goal

pub returns-in-Done-clause-stays : goal.returns-in-Done-clause-stays
returns-in-Done-clause-stays g c =
    prints_by c.print_all.result (g.M.Machine.state c.args.machine.now) (g.M.Machine.state c.print_all.new.machine) Out c.as_slice.result.now
    c.print_all.ensures.done c.print_all.ensures.part

pub returns-in-Refused-clause-stays : goal.returns-in-Refused-clause-stays
returns-in-Refused-clause-stays g c =
    prints_by c.print_all-in-Refused.result (g.M.Machine.state c.args.machine.now) (g.M.Machine.state c.print_all-in-Refused.new.machine) Out
    c.as_slice-in-Refused.result.now c.print_all-in-Refused.ensures.done c.print_all-in-Refused.ensures.part
