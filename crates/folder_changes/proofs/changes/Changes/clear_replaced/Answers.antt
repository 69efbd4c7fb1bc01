use Rattle.std.proofs.Common.{refl}
use Rattle.folder_changes.proofs.Clearing.{same_ready}
use Rattle.folder_changes.proofs.changes.Changes.clear_replaced.Goals as goal

pub invariant_of-self : goal.invariant_of-self
invariant_of-self g c tells =
    let known = c.self-2.invariant tells in
    record {
      noted = known.noted;
      cleared = same_ready c.self-2.inside.ready (record c.self-2.inside.ready { replaced = c.add.new.self })
          (g.C.Calls.waits c.self-2.inside.calls) refl refl refl known.cleared;
    }

pub invariant_of-self-2 : goal.invariant_of-self-2
invariant_of-self-2 g c tells =
    let known = c.self-2.invariant tells in
    record {
      noted = known.noted;
      cleared = same_ready c.self-2.inside.ready (record c.self-2.inside.ready { replaced = c.add.new.self })
          (g.C.Calls.waits c.self-2.inside.calls) refl refl refl known.cleared;
    }
