use Rattle.std.proofs.Common.{ℕ, List, subst, sym, Contains}
use Rattle.boot_base.specs.Paths.{Path}
use Rattle.boot_machine.specs.Prelude.{IsNamesOf}
use Rattle.type1_install.specs.Payloads.{payload_folder}
use Rattle.type1_install.specs.Unnamed.{unnamed_among}
use Rattle.type1_install.proofs.Standing.{unnamed_are}
use Rattle.type1_install.proofs.cleanup.unnamed_payloads.Goals as goal

pub returns-clause-paths : goal.returns-clause-paths
returns-clause-paths g c told =
    let files = (g.M.Machine.state c.args.machine.now).files in
    let esp = c.args.esp.now in
    let items = c.args.items.now in
    let found = c.in_ok-unnamed.ensures in
    let names = c.in_ok-names.names.items in
    let folder = c.requires.folder in
    unnamed_are esp items files c.deref.result.now c.in_ok-unnamed.field-0.items
    (subst (λ (l : List (List ℕ)). IsNamesOf files (payload_folder esp) l) (sym c.deref.ensures.value) (subst (λ (p : Path). IsNamesOf files p names) folder (c.in_ok-names.ensures.names told)))
    found.sorted
    (λ path is. subst (λ (p : Path). Contains (unnamed_among esp p items c.deref.result.now) path) folder (found.among path is))
    (λ path is. found.all path (subst (λ (p : Path). Contains (unnamed_among esp p items c.deref.result.now) path) (sym folder) is))
