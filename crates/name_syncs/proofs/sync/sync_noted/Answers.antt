use Rattle.std.proofs.Common.{map, subst, List, ℕ}
use Rattle.name_syncs.specs.Waiting.{AsksAmong, FileAt, FolderAt, those_that_sync}
use Rattle.name_syncs.proofs.Syncing.{among_then, asks_among, changed_below, changed_root, same_sync}
use Rattle.name_syncs.proofs.sync.sync_noted.Goals as goal
use Rattle.name_syncs.proofs.sync.sync_noted.Goals.{then-named+in_ok-settle_changed, else-named}

pub returns-clause-order : goal.returns-clause-order
returns-clause-order g c tells =
    let named = c.args.named.now in
    let start = g.D.Disk.state c.args.disk.now in
    let filed = g.D.Disk.state c.sync_files.new.disk in
    let here = g.D.Disk.state c.sync_folders.new.disk in
    let files = asks_among (map FileAt named.renamed) start filed (rw c.as_slice.ensures at (c.in_ok-sync_files.ensures.order tells)) in
    let folders = rw c.as_slice-2.ensures at (c.in_ok-sync_folders.ensures.order tells) in
    let again : AsksAmong (map FolderAt (those_that_sync start named.changed.below)) filed here =
    subst (λ (some : List (List ℕ)). AsksAmong (map FolderAt some) filed here) (same_sync start filed files.asks.kept named.changed.below) folders in
    let below = among_then (map FileAt named.renamed) (map FolderAt (those_that_sync start named.changed.below)) start filed here files again in
    elim c.if-named.branch [
      | then-named+in_ok-settle_changed w ↦
          rw w.disk-is (changed_root named start here (g.D.Disk.state w.settle_changed.new.disk) below w.if-named.true (w.in_ok-settle_changed.ensures.asks tells))
      | else-named w ↦ rw w.disk-is (changed_below named start here here below w.if-named.false)
    ]
