use Rattle.std.proofs.Common.{IsTrue, ◌≡◌}
use Rattle.name_syncs.specs.Waiting.{KeepsSynced}
use Rattle.folder_changes.proofs.changes.Changes.sync_replaced.Given as goal

-- the syncs so far have kept what was synced, and what stands there
abbrev pub invariant-loop-folder : goal.invariant-loop-folder
invariant-loop-folder g l =
    IsTrue g.C.Calls.tells
    → KeepsSynced (g.C.Calls.waits l.fn.self) (g.C.Calls.waits l.self) × (g.C.Calls.tree l.self ≡ g.C.Calls.tree l.fn.self)
