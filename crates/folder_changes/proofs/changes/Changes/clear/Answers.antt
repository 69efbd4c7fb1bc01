use Rattle.std.proofs.Common.{map, refl, string_bytes, rules, sym, ◌∙◌}
use Rattle.name_syncs.specs.Waiting.{ListsLeft}
use Rattle.folder_changes.proofs.Clearing.{clear_added, none_left, same_ready}
use Rattle.folder_changes.proofs.changes.Changes.clear.Goals as goal

pub returns-then-has-clause-clear : goal.returns-then-has-clause-clear
returns-then-has-clause-clear g c tells =
    rw (← c.self.view_is) ((c.self.invariant tells).cleared.clear c.args.folder.now (sym c.has.ensures ∙ c.if-has.true))

pub invariant_of-self : goal.invariant_of-self
invariant_of-self g c tells =
    let known = c.self-2.invariant tells in
    record {
      noted = known.noted;
      cleared = same_ready c.self-2.inside.ready (record c.self-2.inside.ready { clear = c.add.new.self })
          (g.C.Calls.waits c.self-2.inside.calls) refl refl c.in_err-add.ensures.err known.cleared;
    }

pub returns-in_err-add-clause-asks : goal.returns-in_err-add-clause-asks
returns-in_err-add-clause-asks g c tells = rw c.self-2.view_is (c.in_ok-clear_names.ensures.asks tells)

pub invariant_of-self-2 : goal.invariant_of-self-2
invariant_of-self-2 g c tells =
    let known = c.self-2.invariant tells in
    let start = g.C.Calls.waits c.args.self.now in
    let new = g.C.Calls.waits c.clear_names.new.self in
    let names = map string_bytes c.as_slice.result.now in
    let lists : ListsLeft start c.args.folder.now names = search rules in
    let none = none_left start new c.args.folder.now names (c.in_ok-clear_names.ensures.asks tells).asks.kept.others lists (c.in_ok-clear_names.ensures.clear tells) in
    record {
      noted = known.noted;
      cleared = clear_added c.self-2.inside.ready (record c.self-2.inside.ready { clear = c.add.new.self })
          (g.C.Calls.waits c.self-2.inside.calls) c.args.folder.now c.in_ok-add.ensures.ok refl refl known.cleared (rw c.self-2.view_is none);
    }

pub returns-clause-clear : goal.returns-clause-clear
returns-clause-clear g c tells =
    let start = g.C.Calls.waits c.args.self.now in
    let new = g.C.Calls.waits c.clear_names.new.self in
    let names = map string_bytes c.as_slice.result.now in
    let lists : ListsLeft start c.args.folder.now names = search rules in
    rw c.self-2.view_is
    (none_left start new c.args.folder.now names (c.in_ok-clear_names.ensures.asks tells).asks.kept.others lists (c.in_ok-clear_names.ensures.clear tells))
