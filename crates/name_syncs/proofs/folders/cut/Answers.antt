use Rattle.name_syncs.proofs.Above.{cut_from}
use Rattle.name_syncs.proofs.folders.cut.Goals as goal

pub returns : goal.returns
returns c = cut_from c.args.path.now c.rsplit_once.result c.rsplit_once.ensures.cases
