use Rattle.std.proofs.Common.{take, ◌+◌, ◌∙◌}
use Rattle.name_syncs.proofs.Syncing.{files_push, one_more}
use Rattle.name_syncs.proofs.sync.sync_files.Goals as goal

pub loop-path-preserved : goal.loop-path-preserved
loop-path-preserved g c tells =
    let paths = c.args.paths.now in
    let i = c.loop-path.path-index in
    let path = c.as_str.result.now in (
      files_push (take i paths) (take (i + 1) paths) path (g.D.Disk.state c.args.disk.now) (g.D.Disk.state c.loop-path.disk) (g.D.Disk.state c.sync_renamed.new.disk)
          (one_more paths i c.path-item.result path c.loop-path-test.true c.path-item.is c.as_str.ensures)
          (c.loop-path.invariant tells).0 (c.in_ok-sync_renamed.ensures.asks tells) (c.in_ok-sync_renamed.ensures.synced tells),
      c.in_ok-sync_renamed.ensures.names tells ∙ (c.loop-path.invariant tells).1,
    )
