use Rattle.std.proofs.Common.{refl}
use Rattle.folder_changes.proofs.Clearing.{same_ready}
use Rattle.folder_changes.proofs.changes.Changes.sync_replaced.Goals as goal

pub invariant_of-self : goal.invariant_of-self
invariant_of-self g c tells =
    let known = c.self.invariant tells in
    record {
      noted = known.noted;
      cleared = same_ready c.self.inside.ready (record c.self.inside.ready { replaced = c.replace-replaced.new.dest })
          (g.C.Calls.waits c.self.inside.calls) refl refl refl known.cleared;
    }
