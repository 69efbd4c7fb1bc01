use Rattle.command_plans.proofs.Once.{once_all, once_among, once_sorted}
use Rattle.type1_install.proofs.naming.in_order.Goals as goal

pub returns-clause-sorted : goal.returns-clause-sorted
returns-clause-sorted c = once_sorted c.args.paths.items c.sort_unstable.new.self.items c.dedup.new.self.items c.sort_unstable.ensures.permutation c.sort_unstable.ensures.sorted c.dedup.ensures.filtered

pub returns-clause-among : goal.returns-clause-among
returns-clause-among c = once_among c.args.paths.items c.sort_unstable.new.self.items c.dedup.new.self.items c.sort_unstable.ensures.permutation c.sort_unstable.ensures.sorted c.dedup.ensures.filtered

pub returns-clause-all : goal.returns-clause-all
returns-clause-all c = once_all c.args.paths.items c.sort_unstable.new.self.items c.dedup.new.self.items c.sort_unstable.ensures.permutation c.sort_unstable.ensures.sorted c.dedup.ensures.filtered
