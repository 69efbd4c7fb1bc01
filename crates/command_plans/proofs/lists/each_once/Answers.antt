use Rattle.command_plans.proofs.Once.{once_distinct, once_among, once_all}
use Rattle.command_plans.proofs.lists.each_once.Goals as goal

pub returns-clause-distinct : goal.returns-clause-distinct
returns-clause-distinct c = once_distinct c.args.temps.items c.sort_unstable.new.self.items c.dedup.new.self.items c.sort_unstable.ensures.permutation c.sort_unstable.ensures.sorted c.dedup.ensures.filtered

pub returns-clause-among : goal.returns-clause-among
returns-clause-among c = once_among c.args.temps.items c.sort_unstable.new.self.items c.dedup.new.self.items c.sort_unstable.ensures.permutation c.sort_unstable.ensures.sorted c.dedup.ensures.filtered

pub returns-clause-all : goal.returns-clause-all
returns-clause-all c = once_all c.args.temps.items c.sort_unstable.new.self.items c.dedup.new.self.items c.sort_unstable.ensures.permutation c.sort_unstable.ensures.sorted c.dedup.ensures.filtered
