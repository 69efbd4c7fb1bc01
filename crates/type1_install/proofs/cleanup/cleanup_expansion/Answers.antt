use Rattle.std.proofs.Common.{rules}
use Rattle.boot_machine.proofs.Reading.{looks_none, looks_on}
use Rattle.boot_machine.specs.Prelude.{seen}
use Rattle.type1_install.specs.Cleaning.{cleanup_expansion}
use Rattle.type1_install.proofs.Unnamed.{fault_says}
use Rattle.type1_install.proofs.cleanup.cleanup_expansion.Goals as goal

pub returns-in_err-folders-clause-looks : goal.returns-in_err-folders-clause-looks
returns-in_err-folders-clause-looks g c = looks_none (g.met.M.Machine.only_now c.args.machine.now) (search rules)

pub returns-in_err-esp-clause-looks : goal.returns-in_err-esp-clause-looks
returns-in_err-esp-clause-looks g c = looks_none (g.met.M.Machine.only_now c.args.machine.now) (search rules)

pub returns-in_err-folder-clause-looks : goal.returns-in_err-folder-clause-looks
returns-in_err-folder-clause-looks g c = looks_none (g.met.M.Machine.only_now c.args.machine.now) (search rules)

pub returns-in_err-paths-clause-looks : goal.returns-in_err-paths-clause-looks
returns-in_err-paths-clause-looks g c = looks_on c.menu_at.ensures.looks c.unnamed_payloads.ensures.looks (search rules)

pub returns-in_err-removals-clause-looks : goal.returns-in_err-removals-clause-looks
returns-in_err-removals-clause-looks g c = looks_on c.menu_at.ensures.looks c.unnamed_payloads.ensures.looks (search rules)

pub returns-clause-looks : goal.returns-clause-looks
returns-clause-looks g c = looks_on c.menu_at.ensures.looks c.unnamed_payloads.ensures.looks (search rules)

pub returns-in_err-paths-clause-says : goal.returns-in_err-paths-clause-says
returns-in_err-paths-clause-says g c told =
    let failed = c.from_residual-in_err-paths in
    fault_says (λ commands. commands.items) c.in_err-paths.field-0.0 failed.result
    (cleanup_expansion (seen (g.M.Machine.state c.args.machine.now)) c.args.esp.now)
    failed.ensures.0 failed.ensures.1 c.in_err-paths.ensures.faults
