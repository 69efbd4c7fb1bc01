use Rattle.std.proofs.Common.{rules}
use Rattle.memory_folder.proofs.Sets.{with_adds}
use Rattle.memory_folder.proofs.path_set.PathSet.add.Goals as goal

pub returns-in_ok-push-clause-adds : goal.returns-in_ok-push-clause-adds
returns-in_ok-push-clause-adds c = with_adds c.args.self.now c.args.path.now c.push.new.self.items (search rules)
