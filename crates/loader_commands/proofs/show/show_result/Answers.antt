use Rattle.std.proofs.Common.{◌≡◌, List, ℕ, Ok, subst, rules}
use Rattle.boot_machine.specs.Prelude.{State, seen}
use Rattle.boot_machine.proofs.Reading.{looks_none, looks_on}
use Rattle.command_plans.specs.Prelude.{menu_at, Says}
use Rattle.loader_commands.specs.Showing.{menu_shown}
use Rattle.loader_commands.proofs.Told.{shown_by}
use Rattle.menu_order.specs.declared.item.MenuItem.{MenuItem}
use Rattle.loader_commands.proofs.show.show_result.Goals as goal

pub returns-in_err-paths-clause-looks : goal.returns-in_err-paths-clause-looks
returns-in_err-paths-clause-looks g c = looks_none (g.met.M.Machine.only_now c.args.machine.now) (search rules)

pub returns-in_err-menu-clause-looks : goal.returns-in_err-menu-clause-looks
returns-in_err-menu-clause-looks g c = looks_on c.conf_bytes.ensures.looks c.menu_at.ensures.looks (search rules)

pub returns-clause-looks : goal.returns-clause-looks
returns-clause-looks g c = looks_on c.conf_bytes.ensures.looks c.menu_at.ensures.looks (search rules)

pub returns-clause-says : goal.returns-clause-says
returns-clause-says g c told =
    let old = g.M.Machine.state c.args.machine.now in
    let bytes = c.in_ok-bytes.bytes.items in
    let menu = c.in_ok-menu.menu.items in
    let menu_is : menu_at (seen old) c.in_ok-paths.paths.folders ≡ Ok menu =
    subst (λ (s : State). menu_at (seen s) c.in_ok-paths.paths.folders ≡ Ok menu) (c.conf_bytes.ensures.looks.reads told).same (c.in_ok-menu.ensures.says told) in
    let at_bytes = subst (λ (bytes : List ℕ). Says (λ text. text.items) c.menu_shown.result (menu_shown bytes c.as_slice.result.now)) c.deref.ensures.value c.menu_shown.ensures.says in
    let at_menu = subst (λ (menu : List MenuItem). Says (λ text. text.items) c.menu_shown.result (menu_shown bytes menu)) c.as_slice.ensures.value at_bytes in
    shown_by (λ text. text.items) c.menu_shown.result (seen old) c.args.esp.now c.in_ok-paths.paths bytes menu c.in_ok-paths.ensures (c.in_ok-bytes.ensures.says told) menu_is at_menu
