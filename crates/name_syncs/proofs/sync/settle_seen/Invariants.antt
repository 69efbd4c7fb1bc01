use Rattle.std.proofs.Common.{IsTrue, take, ◌≡◌}
use Rattle.name_syncs.proofs.Syncing.{SeenDone}
use Rattle.name_syncs.proofs.sync.settle_seen.Given as goal

-- the folders so far are gone through
abbrev pub invariant-loop-folder : goal.invariant-loop-folder
invariant-loop-folder g l =
    IsTrue g.D.Disk.tells
    → SeenDone l.changed (take l.folder-index l.folders) (g.D.Disk.state l.fn.disk) (g.D.Disk.state l.disk) l.fn.settled l.settled
    × (g.D.Disk.names l.disk ≡ g.D.Disk.names l.fn.disk)
