use Rattle.std.proofs.Common.{refl}
use Rattle.folder_changes.proofs.Clearing.{folder_added, may_sync, others_then, same_ready}
use Rattle.folder_changes.proofs.changes.Changes.clear_folder.Goals as goal

pub returns-in_err-clear-clause-asks : goal.returns-in_err-clear-clause-asks
returns-in_err-clear-clause-asks g c tells =
    others_then (g.C.Calls.waits c.args.self.now) (g.C.Calls.waits c.clear_near.new.self) (g.C.Calls.waits c.clear.new.self)
    (c.in_ok-clear_near.ensures.asks tells) (c.in_err-clear.ensures.asks tells)

pub returns-in_err-require_folder_listed-clause-asks : goal.returns-in_err-require_folder_listed-clause-asks
returns-in_err-require_folder_listed-clause-asks g c tells =
    others_then (g.C.Calls.waits c.args.self.now) (g.C.Calls.waits c.clear_near.new.self) (g.C.Calls.waits c.clear.new.self)
    (c.in_ok-clear_near.ensures.asks tells) (c.in_ok-clear.ensures.asks tells)

pub invariant_of-self : goal.invariant_of-self
invariant_of-self g c tells =
    let known = c.self-2.invariant tells in
    record {
      noted = known.noted;
      cleared = same_ready c.self-2.inside.ready (record c.self-2.inside.ready { folders = c.add.new.self })
          (g.C.Calls.waits c.self-2.inside.calls) c.in_err-add.ensures.err refl refl known.cleared;
    }

pub returns-in_err-add-clause-asks : goal.returns-in_err-add-clause-asks
returns-in_err-add-clause-asks g c tells =
    rw c.self-2.view_is
    (others_then (g.C.Calls.waits c.args.self.now) (g.C.Calls.waits c.clear_near.new.self) (g.C.Calls.waits c.clear.new.self)
    (c.in_ok-clear_near.ensures.asks tells) (c.in_ok-clear.ensures.asks tells))

pub invariant_of-self-2 : goal.invariant_of-self-2
invariant_of-self-2 g c tells =
    let known = c.self-2.invariant tells in
    let ready = may_sync (g.C.Calls.waits c.clear_near.new.self) (g.C.Calls.waits c.clear.new.self) c.args.folder.now
    (c.in_ok-clear.ensures.asks tells).asks.kept.others (c.in_ok-clear.ensures.clear tells) (c.in_ok-clear_near.ensures.near tells) in
    record {
      noted = known.noted;
      cleared = folder_added c.self-2.inside.ready (record c.self-2.inside.ready { folders = c.add.new.self })
          (g.C.Calls.waits c.self-2.inside.calls) c.args.folder.now c.in_ok-add.ensures.ok refl refl known.cleared (rw c.self-2.view_is ready);
    }

pub returns-clause-ready : goal.returns-clause-ready
returns-clause-ready g c tells =
    rw c.self-2.view_is
    (may_sync (g.C.Calls.waits c.clear_near.new.self) (g.C.Calls.waits c.clear.new.self) c.args.folder.now
    (c.in_ok-clear.ensures.asks tells).asks.kept.others (c.in_ok-clear.ensures.clear tells) (c.in_ok-clear_near.ensures.near tells))
