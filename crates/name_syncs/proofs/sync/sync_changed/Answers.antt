use Rattle.std.proofs.Common.{IsTrue}
use Rattle.name_syncs.proofs.Noted.{if_nothing_waits}
use Rattle.name_syncs.proofs.sync.sync_changed.Goals as goal

pub returns-clause-all : goal.returns-clause-all
returns-clause-all g c =
    if_nothing_waits c.sync_noted.result (IsTrue g.D.Disk.tells) c.args.named.now (g.D.Disk.state c.args.disk.now) (g.D.Disk.state c.sync_noted.new.disk)
    c.sync_noted.ensures.kept c.sync_noted.ensures.synced
