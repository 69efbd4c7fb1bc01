use Rattle.std.proofs.Common.{◌≡◌, ℕ, List, true, sym, ap, ◌∙◌, subst, rules, All}
use Rattle.boot_machine.specs.Prelude.{has}
use Rattle.entry_commands.specs.Tidying.{HasLeftovers, IsDirectlyIn, leftovers_among}
use Rattle.entry_commands.proofs.Leftovers.{leftovers_there, leftovers_all, leftovers_within}
use Rattle.boot_machine.proofs.Reading.{looks_once}
use Rattle.entry_commands.proofs.tidy.leftovers_in.Goals as goal

pub returns-in_err-names-clause-looks : goal.returns-in_err-names-clause-looks
returns-in_err-names-clause-looks g c = looks_once (g.met.M.Machine.only_now c.args.machine.now) c.names.ensures.moments (λ told. (c.names.ensures.row told).same) (search rules)

pub returns-in_err-leftovers_among-clause-looks : goal.returns-in_err-leftovers_among-clause-looks
returns-in_err-leftovers_among-clause-looks g c = looks_once (g.met.M.Machine.only_now c.args.machine.now) c.names.ensures.moments (λ told. (c.names.ensures.row told).same) (search rules)

pub returns-clause-looks : goal.returns-clause-looks
returns-clause-looks g c = looks_once (g.met.M.Machine.only_now c.args.machine.now) c.names.ensures.moments (λ told. (c.names.ensures.row told).same) (search rules)

pub returns-clause-there : goal.returns-clause-there
returns-clause-there g c told =
    let files = (g.M.Machine.state c.args.machine.now).files in
    let temps = c.in_ok-leftovers_among.ensures ∙ ap (leftovers_among c.args.folder.now) c.as_slice.ensures.value in
    subst (λ (l : List (List ℕ)). All (λ temp. has files temp ≡ true) l) (sym temps)
    (leftovers_there c.args.folder.now files c.in_ok-names.names.items (c.in_ok-names.ensures.row told).names)

pub returns-clause-all : goal.returns-clause-all
returns-clause-all g c told =
    let files = (g.M.Machine.state c.args.machine.now).files in
    let temps = c.in_ok-leftovers_among.ensures ∙ ap (leftovers_among c.args.folder.now) c.as_slice.ensures.value in
    subst (HasLeftovers files c.args.folder.now) (sym temps)
    (leftovers_all c.args.folder.now files c.in_ok-names.names.items (c.in_ok-names.ensures.row told).names)

pub returns-clause-within : goal.returns-clause-within
returns-clause-within g c told =
    let temps = c.in_ok-leftovers_among.ensures ∙ ap (leftovers_among c.args.folder.now) c.as_slice.ensures.value in
    subst (All (IsDirectlyIn c.args.folder.now)) (sym temps)
    (leftovers_within c.args.folder.now (g.M.Machine.state c.args.machine.now).files c.in_ok-names.names.items (c.in_ok-names.ensures.row told).names)
