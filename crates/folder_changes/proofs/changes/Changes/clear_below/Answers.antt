use Rattle.std.proofs.Common.{refl, sym, ◌∙◌, codes}
use Rattle.boot_base.specs.Layout.{images_below}
use Rattle.name_syncs.specs.Folders.{path_in}
use Rattle.name_syncs.proofs.Syncing.{leaves_then, none_left_still}
use Rattle.folder_changes.proofs.Clearing.{near_added, others_then, replaced_all, same_ready}
use Rattle.folder_changes.proofs.changes.Changes.clear_below.Goals as goal

pub returns-then-has-clause-near : goal.returns-then-has-clause-near
returns-then-has-clause-near g c tells =
    rw (← c.self.view_is) ((c.self.invariant tells).cleared.near c.args.above.now (sym c.has.ensures ∙ c.if-has.true))

pub returns-in_err-clear_replaced-2-clause-asks : goal.returns-in_err-clear_replaced-2-clause-asks
returns-in_err-clear_replaced-2-clause-asks g c tells =
    others_then (g.C.Calls.waits c.args.self.now) (g.C.Calls.waits c.clear_replaced.new.self) (g.C.Calls.waits c.clear_replaced-2.new.self)
    (c.in_ok-clear_replaced.ensures.asks tells) (c.in_err-clear_replaced-2.ensures.asks tells)

pub returns-in_err-clear_replaced-3-clause-asks : goal.returns-in_err-clear_replaced-3-clause-asks
returns-in_err-clear_replaced-3-clause-asks g c tells =
    others_then (g.C.Calls.waits c.args.self.now) (g.C.Calls.waits c.clear_replaced-2.new.self) (g.C.Calls.waits c.clear_replaced-3.new.self)
    (others_then (g.C.Calls.waits c.args.self.now) (g.C.Calls.waits c.clear_replaced.new.self) (g.C.Calls.waits c.clear_replaced-2.new.self)
    (c.in_ok-clear_replaced.ensures.asks tells) (c.in_ok-clear_replaced-2.ensures.asks tells)) (c.in_err-clear_replaced-3.ensures.asks tells)

pub invariant_of-self : goal.invariant_of-self
invariant_of-self g c tells =
    let known = c.self-2.invariant tells in
    record {
      noted = known.noted;
      cleared = same_ready c.self-2.inside.ready (record c.self-2.inside.ready { near = c.add.new.self })
          (g.C.Calls.waits c.self-2.inside.calls) refl c.in_err-add.ensures.err refl known.cleared;
    }

pub returns-in_err-add-clause-asks : goal.returns-in_err-add-clause-asks
returns-in_err-add-clause-asks g c tells =
    rw c.self-2.view_is
    (others_then (g.C.Calls.waits c.args.self.now) (g.C.Calls.waits c.clear_replaced-2.new.self) (g.C.Calls.waits c.clear_replaced-3.new.self)
    (others_then (g.C.Calls.waits c.args.self.now) (g.C.Calls.waits c.clear_replaced.new.self) (g.C.Calls.waits c.clear_replaced-2.new.self)
    (c.in_ok-clear_replaced.ensures.asks tells) (c.in_ok-clear_replaced-2.ensures.asks tells)) (c.in_ok-clear_replaced-3.ensures.asks tells))

pub invariant_of-self-2 : goal.invariant_of-self-2
invariant_of-self-2 g c tells =
    let known = c.self-2.invariant tells in
    let first = g.C.Calls.waits c.clear_replaced.new.self in
    let next = g.C.Calls.waits c.clear_replaced-2.new.self in
    let last = g.C.Calls.waits c.clear_replaced-3.new.self in
    let to_next = (c.in_ok-clear_replaced-2.ensures.asks tells).asks.kept.others in
    let to_last = (c.in_ok-clear_replaced-3.ensures.asks tells).asks.kept.others in
    let above = c.args.above.now in
    let all = replaced_all last above
    (none_left_still first last (leaves_then first next last to_next to_last) (path_in above images_below) (c.in_ok-clear_replaced.ensures.clear tells))
    (none_left_still next last to_last (path_in above (codes "loader")) (c.in_ok-clear_replaced-2.ensures.clear tells))
    (c.in_ok-clear_replaced-3.ensures.clear tells) in
    record {
      noted = known.noted;
      cleared = near_added c.self-2.inside.ready (record c.self-2.inside.ready { near = c.add.new.self })
          (g.C.Calls.waits c.self-2.inside.calls) above c.in_ok-add.ensures.ok refl refl known.cleared (rw c.self-2.view_is all);
    }

pub returns-clause-asks : goal.returns-clause-asks
returns-clause-asks g c tells =
    rw c.self-2.view_is
    (others_then (g.C.Calls.waits c.args.self.now) (g.C.Calls.waits c.clear_replaced-2.new.self) (g.C.Calls.waits c.clear_replaced-3.new.self)
    (others_then (g.C.Calls.waits c.args.self.now) (g.C.Calls.waits c.clear_replaced.new.self) (g.C.Calls.waits c.clear_replaced-2.new.self)
    (c.in_ok-clear_replaced.ensures.asks tells) (c.in_ok-clear_replaced-2.ensures.asks tells)) (c.in_ok-clear_replaced-3.ensures.asks tells))

pub returns-clause-near : goal.returns-clause-near
returns-clause-near g c tells =
    let first = g.C.Calls.waits c.clear_replaced.new.self in
    let next = g.C.Calls.waits c.clear_replaced-2.new.self in
    let last = g.C.Calls.waits c.clear_replaced-3.new.self in
    let to_next = (c.in_ok-clear_replaced-2.ensures.asks tells).asks.kept.others in
    let to_last = (c.in_ok-clear_replaced-3.ensures.asks tells).asks.kept.others in
    let above = c.args.above.now in
    rw c.self-2.view_is (replaced_all last above
    (none_left_still first last (leaves_then first next last to_next to_last) (path_in above images_below) (c.in_ok-clear_replaced.ensures.clear tells))
    (none_left_still next last to_last (path_in above (codes "loader")) (c.in_ok-clear_replaced-2.ensures.clear tells))
    (c.in_ok-clear_replaced-3.ensures.clear tells))
