use Rattle.std.proofs.Common.{◌∙◌, List, subst, sym, Contains}
use Rattle.boot_base.specs.Paths.{Path}
use Rattle.type1_install.proofs.Unnamed.{left_over}
use Rattle.type1_install.proofs.naming.unnamed.Goals as goal

pub returns-clause-among : goal.returns-clause-among
returns-clause-among c =
    let left = left_over c.args.esp.now c.args.folder.now c.args.items.now c.args.names.now c.deref.result.now c.in_ok-paths.paths.items
    (c.deref.ensures.value ∙ c.in_ok-named.ensures) c.in_ok-paths.ensures in
    λ path is. subst (λ (l : List Path). Contains l path) (c.paths_without.ensures ∙ left) (c.in_order.ensures.among path is)

pub returns-clause-all : goal.returns-clause-all
returns-clause-all c =
    let left = left_over c.args.esp.now c.args.folder.now c.args.items.now c.args.names.now c.deref.result.now c.in_ok-paths.paths.items
    (c.deref.ensures.value ∙ c.in_ok-named.ensures) c.in_ok-paths.ensures in
    λ path is. c.in_order.ensures.all path (subst (λ (l : List Path). Contains l path) (sym (c.paths_without.ensures ∙ left)) is)
