use Rattle.folder_changes.proofs.Clearing.{known_still}
use Rattle.folder_changes.proofs.changes.Changes.sync_at.Goals as goal

pub invariant_of-self : goal.invariant_of-self
invariant_of-self g c tells =
    known_still c.self.inside.is_unsure c.self.inside.named c.self.inside.ready (g.C.Calls.waits c.self.inside.calls)
    (g.C.Calls.waits c.sync_open.new.self) (c.sync_open.ensures.asks tells).kept (c.self.invariant tells)

pub invariant_of-self-in-Some : goal.invariant_of-self-in-Some
invariant_of-self-in-Some g c tells =
    known_still c.self.inside.is_unsure c.self.inside.named c.self.inside.ready (g.C.Calls.waits c.self.inside.calls)
    (g.C.Calls.waits c.sync_open.new.self) (c.sync_open.ensures.asks tells).kept (c.self.invariant tells)

pub invariant_of-self-in-None : goal.invariant_of-self-in-None
invariant_of-self-in-None g c tells =
    known_still c.self.inside.is_unsure c.self.inside.named c.self.inside.ready (g.C.Calls.waits c.self.inside.calls)
    (g.C.Calls.waits c.sync_file.new.self) (c.sync_file.ensures.asks tells).kept (c.self.invariant tells)
