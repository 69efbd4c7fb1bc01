use Rattle.std.proofs.Common.{arith, rules}
use Rattle.std.proofs.lemmas.Grind.{common_steps}
use Rattle.boot_machine.proofs.Reading.{looks_none}
use Rattle.command_plans.proofs.Sizes.{shown_contents}
use Rattle.command_plans.proofs.files.file_part.Goals as goal

pub returns-in_err-bytes-clause-looks : goal.returns-in_err-bytes-clause-looks
returns-in_err-bytes-clause-looks g c = looks_none (g.met.M.Machine.only_now c.args.machine.now) (search rules)

pub returns-clause-says : goal.returns-clause-says
returns-clause-says g c told =
    let shown = shown_contents (g.M.Machine.state c.args.machine.now) c.args.path.now c.know.ensures.lasting in
    let given = c.in_ok-read_part.ensures.bytes told in
    grind (arith, common_steps)
