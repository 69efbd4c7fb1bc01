-- What a name is read as is within the limits.
use Rattle.menu_order.proofs.Renaming.{bad_is, no_bad}
use Rattle.menu_order.proofs.CounterWritten.{reading_bounds}
use Rattle.menu_order.proofs.counted.Counted.bad_name.Goals as goal

pub join_name-requires-clause-done : goal.join_name-requires-clause-done
join_name-requires-clause-done c = (reading_bounds c.args.name.now c.in-Some.reading.base.now c.in-Some.reading.left c.in-Some.reading.done c.in-Some.reading.suffix c.in-Some.ensures).1

pub returns-in_default-clause-value : goal.returns-in_default-clause-value
returns-in_default-clause-value c = no_bad c.args.name.now c.in_default.ensures

pub returns-clause-value : goal.returns-clause-value
returns-clause-value c =
    let reading = c.in-Some.reading in
    bad_is c.args.name.now reading.base.now reading.left reading.done reading.suffix c.in-Some.ensures _ c.in_ok-bad.ensures.written
