use Rattle.std.proofs.Common.{IsTrue, take, ◌≡◌}
use Rattle.name_syncs.proofs.Syncing.{FilesDone}
use Rattle.name_syncs.proofs.sync.sync_files.Given as goal

-- the files so far are synced
abbrev pub invariant-loop-path : goal.invariant-loop-path
invariant-loop-path g l =
    IsTrue g.D.Disk.tells
    → FilesDone (take l.path-index l.paths) (g.D.Disk.state l.fn.disk) (g.D.Disk.state l.disk)
    × (g.D.Disk.names l.disk ≡ g.D.Disk.names l.fn.disk)
