use Rattle.folder_changes.proofs.Clearing.{known_after}
use Rattle.folder_changes.proofs.changes.Changes.sync_written.Goals as goal

pub invariant_of-self : goal.invariant_of-self
invariant_of-self g c tells =
    known_after c.self.inside.is_unsure c.is_err-self-inside.result c.self.inside.named c.self.inside.ready
    (g.C.Calls.waits c.self.inside.calls) (g.C.Calls.waits c.sync_open-answer.new.self) c.in_ok-require_sync_before.ensures
    (c.sync_open-answer.ensures.asks tells).kept (c.self.invariant tells)
