use Rattle.std.proofs.Common.{◌≡◌, ◌∙◌, List, true, ap, rules, subst, sym, All, Contains}
use Rattle.boot_base.specs.Paths.{Path, under}
use Rattle.boot_machine.specs.Prelude.{has}
use Rattle.type1_install.specs.Sweeping.{IsBesidePayload, temps_beside}
use Rattle.type1_install.proofs.Leftovers.{all_among, beside_all, beside_there, beside_within}
use Rattle.type1_install.proofs.sweeping.leftovers_of.Goals as goal

pub returns-clause-there : goal.returns-clause-there
returns-clause-there g c told =
    let files = (g.M.Machine.state c.args.machine.now).files in
    let temps = c.in_ok-temps_beside.ensures ∙ ap (temps_beside c.args.folder.now) c.as_slice.ensures.value in
    all_among (λ temp. has files temp ≡ true) c.each_once.result.items c.in_ok-temps_beside.field-0.items c.each_once.ensures.among
    (subst (λ (l : List Path). All (λ temp. has files temp ≡ true) l) (sym temps)
    (beside_there c.args.folder.now files c.in_ok-names.names.items (c.in_ok-names.ensures.names told)))

pub returns-clause-all : goal.returns-clause-all
returns-clause-all g c told name is_name temp there =
    let files = (g.M.Machine.state c.args.machine.now).files in
    let temps = c.in_ok-temps_beside.ensures ∙ ap (temps_beside c.args.folder.now) c.as_slice.ensures.value in
    c.each_once.ensures.all _ (subst (λ (l : List Path). Contains l (under c.args.folder.now name)) (sym temps)
    (beside_all c.args.folder.now files c.in_ok-names.names.items (c.in_ok-names.ensures.names told) name is_name temp there))

pub returns-clause-within : goal.returns-clause-within
returns-clause-within g c =
    let temps = c.in_ok-temps_beside.ensures ∙ ap (temps_beside c.args.folder.now) c.as_slice.ensures.value in
    all_among (IsBesidePayload c.args.folder.now) c.each_once.result.items c.in_ok-temps_beside.field-0.items c.each_once.ensures.among
    (subst (All (IsBesidePayload c.args.folder.now)) (sym temps) (beside_within c.args.folder.now c.in_ok-names.names.items))
