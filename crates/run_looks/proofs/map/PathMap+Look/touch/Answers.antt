use Rattle.std.proofs.Common.{sym, ap, ◌∙◌, rules}
use Rattle.std.specs.FinMap as map
use Rattle.run_looks.specs.declared.identity.Look.{Look}
use Rattle.run_looks.proofs.Maps.{get_by_text, inserted, touched, untouched}
use Rattle.run_looks.proofs.map.PathMap+Look.touch.Goals as goal

pub returns-in_default-clause-before : goal.returns-in_default-clause-before
returns-in_default-clause-before c =
    c.in_default.ensures.value ∙ sym (get_by_text c.self.inside.entries.entries c.args.path.now)
    ∙ ap (λ m. map.get m c.args.path.now) c.self.view_is

pub returns-in_default-clause-after : goal.returns-in_default-clause-after
returns-in_default-clause-after c =
    untouched c.args.self.now _ c.args.path.now c.args.reply (sym (returns-in_default-clause-before c))
    (rw c.get_mut.follows.holds-at-none c.self.view_is)

pub returns-clause-before : goal.returns-clause-before
returns-clause-before c =
    c.in-Some.ensures.value ∙ sym (get_by_text c.self.inside.entries.entries c.args.path.now)
    ∙ ap (λ m. map.get m c.args.path.now) c.self.view_is

pub returns-clause-after : goal.returns-clause-after
returns-clause-after c =
    let look : Look = record { found = c.in-Some.look.now.found; reply = c.args.reply } in
    touched c.args.self.now _ c.args.path.now c.args.reply c.in-Some.look.now (returns-clause-before c)
    (inserted c.args.path.now c.self.inside.entries (c.get_mut.follows.lender look) look
    ((c.get_mut.follows.holds look).3 (search rules))
    ∙ ap (λ m. map.insert m c.args.path.now look) c.self.view_is)
