use Rattle.std.proofs.Common.{rules}
use Rattle.boot_machine.proofs.Reading.{looks_on, reads_on}
use Rattle.entry_commands.proofs.bless.present_names.Goals as goal

pub returns-in_err-counted-clause-looks : goal.returns-in_err-counted-clause-looks
returns-in_err-counted-clause-looks g c = looks_on c.is_there.ensures.looks c.is_there-2.ensures.looks (search rules)

pub returns-in_err-bad-clause-looks : goal.returns-in_err-bad-clause-looks
returns-in_err-bad-clause-looks g c = record {
  reads = λ told. let both =
      reads_on g.M.Machine.time g.M.Machine.state c.args.machine.now c.is_there.new.machine c.is_there-2.new.machine (c.is_there.ensures.looks.reads told) (c.is_there-2.ensures.looks.reads told) in
      reads_on g.M.Machine.time g.M.Machine.state c.args.machine.now c.is_there-2.new.machine c.is_there-3.new.machine both (c.is_there-3.ensures.looks.reads told);
  counted = search rules;
}

pub returns-clause-looks : goal.returns-clause-looks
returns-clause-looks g c = record {
  reads = λ told. let both =
      reads_on g.M.Machine.time g.M.Machine.state c.args.machine.now c.is_there.new.machine c.is_there-2.new.machine (c.is_there.ensures.looks.reads told) (c.is_there-2.ensures.looks.reads told) in
      reads_on g.M.Machine.time g.M.Machine.state c.args.machine.now c.is_there-2.new.machine c.is_there-3.new.machine both (c.is_there-3.ensures.looks.reads told);
  counted = search rules;
}
