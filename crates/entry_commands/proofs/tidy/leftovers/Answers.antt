use Rattle.std.proofs.Common.{◌≡◌, inl, inr, List, Ok, true, sym, subst, rules, All, Contains}
use Rattle.std.proofs.lemmas.List.Elements.{All-append, All-weaker, Contains-append_left, Contains-append_right}
use Rattle.boot_machine.specs.Prelude.{State, has}
use Rattle.boot_base.specs.Paths.{Path}
use Rattle.entry_commands.specs.Tidying.{HasLeftovers, IsDirectlyIn, StandsAt}
use Rattle.entry_commands.proofs.Leftovers.{all_among, found_more}
use Rattle.boot_machine.proofs.Reading.{looks_on}
use Rattle.entry_commands.proofs.tidy.leftovers.Goals as goal

pub returns-in_err-images-clause-looks : goal.returns-in_err-images-clause-looks
returns-in_err-images-clause-looks g c = looks_on c.leftovers_in.ensures.looks c.leftovers_in-2.ensures.looks (search rules)

pub returns-in_err-append-clause-looks : goal.returns-in_err-append-clause-looks
returns-in_err-append-clause-looks g c = looks_on c.leftovers_in.ensures.looks c.leftovers_in-2.ensures.looks (search rules)

pub returns-clause-looks : goal.returns-clause-looks
returns-clause-looks g c = looks_on c.leftovers_in.ensures.looks c.leftovers_in-2.ensures.looks (search rules)

pub returns-clause-there : goal.returns-clause-there
returns-clause-there g c told =
    let files = (g.M.Machine.state c.args.machine.now).files in
    let images = subst (λ (s : State). All (λ temp. has s.files temp ≡ true) c.in_ok-images.images.items) (c.leftovers_in.ensures.looks.reads told).same (c.in_ok-images.ensures.there told) in
    all_among (λ temp. has files temp ≡ true) c.each_once.result.items c.append.new.self.items c.each_once.ensures.among
    (subst (λ (l : List Path). All (λ temp. has files temp ≡ true) l) (sym c.in_ok-append.ensures.items)
    (All-append (λ temp. has files temp ≡ true) c.in_ok-temps.temps.items c.in_ok-images.images.items (c.in_ok-temps.ensures.there told) images))

pub returns-clause-entries : goal.returns-clause-entries
returns-clause-entries g c told =
    let files = (g.M.Machine.state c.args.machine.now).files in
    found_more files c.args.folders.now.entries c.in_ok-temps.temps.items c.each_once.result.items
    (λ temp is. c.each_once.ensures.all temp (subst (λ (l : List Path). Contains l temp)
    (sym c.in_ok-append.ensures.items) (Contains-append_left c.in_ok-temps.temps.items c.in_ok-images.images.items temp is)))
    (c.in_ok-temps.ensures.all told)

pub returns-clause-images : goal.returns-clause-images
returns-clause-images g c told =
    let files = (g.M.Machine.state c.args.machine.now).files in
    found_more files c.args.folders.now.images c.in_ok-images.images.items c.each_once.result.items
    (λ temp is. c.each_once.ensures.all temp (subst (λ (l : List Path). Contains l temp)
    (sym c.in_ok-append.ensures.items) (Contains-append_right c.in_ok-temps.temps.items c.in_ok-images.images.items temp is)))
    (subst (λ (s : State). HasLeftovers s.files c.args.folders.now.images c.in_ok-images.images.items) (c.leftovers_in.ensures.looks.reads told).same (c.in_ok-images.ensures.all told))

pub returns-clause-within : goal.returns-clause-within
returns-clause-within g c told =
    let folders = c.args.folders.now in
    let at = StandsAt (Ok folders) in
    all_among at c.each_once.result.items c.append.new.self.items c.each_once.ensures.among
    (subst (All at) (sym c.in_ok-append.ensures.items)
    (All-append at c.in_ok-temps.temps.items c.in_ok-images.images.items
    (All-weaker (IsDirectlyIn folders.entries) at (λ q is. inl is) c.in_ok-temps.temps.items (c.in_ok-temps.ensures.within told))
    (All-weaker (IsDirectlyIn folders.images) at (λ q is. inr is) c.in_ok-images.images.items (c.in_ok-images.ensures.within told))))
