use Rattle.std.proofs.Common.{rules}
use Rattle.name_syncs.specs.Folders.{folders_above, unsettled}
use Rattle.name_syncs.proofs.Above.{with_folders-append}
use Rattle.name_syncs.proofs.named.Named.rename.Goals as goal

pub returns : goal.returns
returns c =
    let settled = c.args.self.now.settled in
    let both = with_folders-append c.args.self.now.changed (unsettled settled (folders_above c.args.to.now)) (unsettled settled (folders_above c.args.from.now)) in
    rw both (search rules)
