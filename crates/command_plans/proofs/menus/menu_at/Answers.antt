use Rattle.std.proofs.Common.{sym, subst}
use Rattle.command_plans.specs.Prelude.{ReadErrorFor, menu_at}
use Rattle.boot_machine.specs.Prelude.{seen}
use Rattle.command_plans.proofs.Scanned.{few_said, read_error_menu}
use Rattle.command_plans.proofs.menus.menu_at.Goals as goal

pub returns-in-Ok-clause-says : goal.returns-in-Ok-clause-says
returns-in-Ok-clause-says g c told =
    let files = (g.M.Machine.state c.args.machine.now).files in
    few_said files c.args.folders.now c.in-Ok.menu.items (c.in-Ok.ensures.few told) (c.in-Ok.ensures.value told)

pub returns-in-Err-clause-says : goal.returns-in-Err-clause-says
returns-in-Err-clause-says g c told =
    let s = g.M.Machine.state c.args.machine.now in
    subst (λ fault. ReadErrorFor fault (menu_at (seen s) c.args.folders.now)) (sym c.menu_read_error.ensures) (read_error_menu _ s.files c.args.folders.now c.in-Err.fault told c.in-Err.ensures.many)
