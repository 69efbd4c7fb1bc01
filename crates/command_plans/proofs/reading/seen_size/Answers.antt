use Rattle.std.proofs.Common.{sym, rules}
use Rattle.command_plans.proofs.Sizes.{size_answer}
use Rattle.boot_machine.proofs.Reading.{looks_once}
use Rattle.command_plans.proofs.reading.seen_size.Goals as goal

pub returns-clause-size : goal.returns-clause-size
returns-clause-size g c =
    rw (sym c.file.ensures.path)
    (size_answer _ _ c.file.result.now c.size.result (rw c.file.ensures.path c.file.ensures.lasting) c.size.ensures.row)

pub returns-clause-looks : goal.returns-clause-looks
returns-clause-looks g c = looks_once (g.met.M.Machine.only_now c.args.machine.now) c.size.ensures.moments (λ told. (c.size.ensures.row told).same) (search rules)
