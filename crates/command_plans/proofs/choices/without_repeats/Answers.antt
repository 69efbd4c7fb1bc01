use Rattle.std.proofs.Common.{rules, sym, subst, false, ◌≡◌, AllPairs}
use Rattle.command_plans.specs.Prelude.{without_repeats}
use Rattle.command_plans.proofs.WithoutRepeats.{kept_new, kept_seen, once_apart}
use Rattle.command_plans.proofs.choices.without_repeats.Goals as goal

pub loop-item-init : goal.loop-item-init
unfolding without_repeats
loop-item-init g c = search rules

pub loop-item-preserved-in-Continue-1 : goal.loop-item-preserved-in-Continue-1
loop-item-preserved-in-Continue-1 g c =
    kept_new g.met.T.Eq.laws c.loop-item.yielded c.in-Some.item c.loop-item.kept.items c.push.new.self.items c.contains.result c.loop-item.invariant (search rules) (search rules) (search rules)

pub loop-item-preserved : goal.loop-item-preserved
loop-item-preserved g c =
    kept_seen g.met.T.Eq.laws c.loop-item.yielded c.in-Some.item c.loop-item.kept.items c.contains.result c.loop-item.invariant (search rules) (search rules)

pub returns-clause-distinct : goal.returns-clause-distinct
returns-clause-distinct g c =
    subst (AllPairs (λ one other. g.T.PartialEq.eq other one ≡ false)) (sym c.loop-item.invariant) (once_apart g.T.PartialEq.eq c.loop-item.yielded)
