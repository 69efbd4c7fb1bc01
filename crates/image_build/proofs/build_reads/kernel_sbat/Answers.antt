use Rattle.boot_machine.proofs.Reading.{looks_on}
use Rattle.std.proofs.Common.{subst, arith, rules}
use Rattle.boot_machine.specs.Prelude.{State, TakesAtMost, contents, seen}
use Rattle.image_build.specs.Reads.{loaded_sbat_length}
use Rattle.image_build.proofs.build_reads.kernel_sbat.Goals as goal

pub returns-in-Ok-clause-looks : goal.returns-in-Ok-clause-looks
returns-in-Ok-clause-looks g c = looks_on c.head_of_size.ensures.looks c.loaded_sbat.ensures.looks (search rules)

pub returns-in-Ok-clause-taken : goal.returns-in-Ok-clause-taken
returns-in-Ok-clause-taken g c told =
    let text =
    subst (λ (s : State). TakesAtMost (loaded_sbat_length (contents (seen s)) c.args.path.now) (g.M.Machine.taken c.head_of_size.new.machine) (g.M.Machine.taken c.loaded_sbat.new.machine))
    (c.head_of_size.ensures.looks.reads told).same (c.loaded_sbat.ensures.taken told) in
    omega (arith, c.head_of_size.ensures.taken told, text)
