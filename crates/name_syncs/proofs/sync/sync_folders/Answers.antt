use Rattle.std.proofs.Common.{take, ◌+◌, ◌∙◌}
use Rattle.name_syncs.proofs.Syncing.{folders_push, one_more, settles_some}
use Rattle.name_syncs.proofs.sync.sync_folders.Goals as goal

pub loop-folder-preserved : goal.loop-folder-preserved
loop-folder-preserved g c tells =
    let folders = c.args.folders.now in
    let i = c.loop-folder.folder-index in
    let folder = c.as_str.result.now in (
      folders_push c.args.own.now (take i folders) (take (i + 1) folders) folder
          (g.D.Disk.state c.args.disk.now) (g.D.Disk.state c.loop-folder.disk) (g.D.Disk.state c.settle_changed.new.disk)
          c.args.settled.now c.loop-folder.settled c.settle_changed.new.settled
          (one_more folders i c.folder-item.result folder c.loop-folder-test.true c.folder-item.is c.as_str.ensures)
          (c.loop-folder.invariant tells).0 (c.in_ok-settle_changed.ensures.asks tells) (c.in_ok-settle_changed.ensures.synced tells)
          (c.in_ok-settle_changed.ensures.settled tells),
      c.in_ok-settle_changed.ensures.names tells ∙ (c.loop-folder.invariant tells).1,
    )

pub returns-in_err-settle_changed-clause-settled : goal.returns-in_err-settle_changed-clause-settled
returns-in_err-settle_changed-clause-settled g c tells =
    let folders = c.args.folders.now in
    let i = c.loop-folder.folder-index in
    let folder = c.as_str.result.now in
    settles_some folders i folder (g.D.Disk.state c.loop-folder.disk) (g.D.Disk.state c.settle_changed.new.disk)
    c.args.settled.now c.loop-folder.settled c.settle_changed.new.settled
    (one_more folders i c.folder-item.result folder c.loop-folder-test.true c.folder-item.is c.as_str.ensures)
    (c.in_err-settle_changed.ensures.others tells).asks.kept (c.loop-folder.invariant tells).0.settles (c.in_err-settle_changed.ensures.settled tells)
