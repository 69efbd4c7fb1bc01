-- The good name as a plain function of the name.
use Rattle.std.proofs.Common.{List, ℕ, ◌++◌, ap, ◌∙◌}
use Rattle.menu_order.proofs.Renaming.{good_is, no_good}
use Rattle.menu_order.proofs.counted.Counted.good_name.Goals as goal

pub returns-in_default-clause-value : goal.returns-in_default-clause-value
returns-in_default-clause-value c = no_good c.args.name.now c.in_default.ensures

pub returns-clause-value : goal.returns-clause-value
returns-clause-value c =
    let reading = c.in-Some.reading in
    good_is c.args.name.now reading.base.now reading.left reading.done reading.suffix c.in-Some.ensures _
    (c.in_ok-good.ensures.ok ∙ ap (λ (text : List ℕ). reading.base.now ++ text) c.as_str-suffix.ensures)
