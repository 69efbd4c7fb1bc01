use Rattle.boot_machine.proofs.Reading.{looks_on}
use Rattle.std.proofs.Common.{subst, ◌+◌, arith, rules}
use Rattle.boot_machine.specs.Prelude.{State, TakesAtMost, contents, seen}
use Rattle.image_build.specs.Reads.{loaded_sbat_length}
use Rattle.image_build.proofs.build_reads.image_sbat.Goals as goal

pub returns-in_err-kernel-clause-looks : goal.returns-in_err-kernel-clause-looks
returns-in_err-kernel-clause-looks g c = looks_on c.loaded_sbat.ensures.looks c.kernel_sbat.ensures.looks (search rules)

pub returns-in_err-merge_sbat-clause-looks : goal.returns-in_err-merge_sbat-clause-looks
returns-in_err-merge_sbat-clause-looks g c = looks_on c.loaded_sbat.ensures.looks c.kernel_sbat.ensures.looks (search rules)

pub returns-clause-looks : goal.returns-clause-looks
returns-clause-looks g c = looks_on c.loaded_sbat.ensures.looks c.kernel_sbat.ensures.looks (search rules)

pub returns-in_err-kernel-clause-taken : goal.returns-in_err-kernel-clause-taken
returns-in_err-kernel-clause-taken g c told =
    let kernel =
    subst
    (λ (s : State). TakesAtMost (69463 + loaded_sbat_length (contents (seen s)) c.args.found.now.linux)
    (g.M.Machine.taken c.loaded_sbat.new.machine) (g.M.Machine.taken c.kernel_sbat.new.machine))
    (c.loaded_sbat.ensures.looks.reads told).same (c.kernel_sbat.ensures.taken told) in
    omega (arith, c.loaded_sbat.ensures.taken told, kernel)

pub returns-in_err-merge_sbat-clause-taken : goal.returns-in_err-merge_sbat-clause-taken
returns-in_err-merge_sbat-clause-taken g c told =
    let kernel =
    subst
    (λ (s : State). TakesAtMost (69463 + loaded_sbat_length (contents (seen s)) c.args.found.now.linux)
    (g.M.Machine.taken c.loaded_sbat.new.machine) (g.M.Machine.taken c.kernel_sbat.new.machine))
    (c.loaded_sbat.ensures.looks.reads told).same (c.kernel_sbat.ensures.taken told) in
    omega (arith, c.loaded_sbat.ensures.taken told, kernel)

pub returns-clause-taken : goal.returns-clause-taken
returns-clause-taken g c told =
    let kernel =
    subst
    (λ (s : State). TakesAtMost (69463 + loaded_sbat_length (contents (seen s)) c.args.found.now.linux)
    (g.M.Machine.taken c.loaded_sbat.new.machine) (g.M.Machine.taken c.kernel_sbat.new.machine))
    (c.loaded_sbat.ensures.looks.reads told).same (c.kernel_sbat.ensures.taken told) in
    omega (arith, c.loaded_sbat.ensures.taken told, kernel)
