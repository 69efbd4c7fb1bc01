use Rattle.std.proofs.Common.{IsTrue, ap}
use Rattle.name_syncs.specs.declared.named.Named.{Named}
use Rattle.name_syncs.proofs.Noted.{if_all_show}
use Rattle.name_syncs.proofs.sync.sync_names.Goals as goal

pub returns-clause-shown : goal.returns-clause-shown
returns-clause-shown g c =
    let noted = c.in_ok-sync_changed.ensures.noted in
    if_all_show c.sync_seen.result (IsTrue g.D.Disk.tells) c.args.named.now c.sync_changed.new.named
    (g.D.Disk.state c.sync_changed.new.disk) (g.D.Disk.state c.sync_seen.new.disk)
    (ap (λ (named : Named). named.changed) noted) (ap (λ (named : Named). named.seen) noted)
    c.sync_seen.ensures.kept c.in_ok-sync_changed.ensures.synced c.sync_seen.ensures.shown
