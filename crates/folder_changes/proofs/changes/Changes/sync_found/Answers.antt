use Rattle.folder_changes.proofs.Clearing.{known_still}
use Rattle.folder_changes.proofs.changes.Changes.sync_found.Goals as goal

pub invariant_of-self : goal.invariant_of-self
invariant_of-self g c tells =
    known_still c.self.inside.is_unsure c.self.inside.named c.self.inside.ready (g.C.Calls.waits c.self.inside.calls)
    (g.C.Calls.waits c.sync_file-answer.new.self) (c.sync_file-answer.ensures.asks tells).kept (c.self.invariant tells)
