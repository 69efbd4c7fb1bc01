-- A name has one reading, and its numbers have nine digits at most.
use Rattle.std.proofs.Common.{refl, sym, ◌∙◌}
use Rattle.menu_order.proofs.CounterReadings.{one_reading}
use Rattle.menu_order.proofs.CounterWritten.{reading_bounds}
use Rattle.menu_order.proofs.Splitting.{split_none, split_some}
use Rattle.menu_order.proofs.counted.Counted.split.Goals as goal

pub returns-in_err-reading-clause-only : goal.returns-in_err-reading-clause-only
returns-in_err-reading-clause-only c base left done suffix r = absurd (c.in_err-reading.ensures base left done suffix r)

pub returns-clause-only : goal.returns-clause-only
returns-clause-only c base left done suffix r =
    let same =
    one_reading c.args.name.now c.in_ok-reading.reading.base.now base c.in_ok-reading.reading.left left c.in_ok-reading.reading.done done
    c.in_ok-reading.reading.suffix suffix c.in_ok-reading.ensures r in
    rw (same.0, same.1, same.2, same.3) refl

pub returns-clause-limits : goal.returns-clause-limits
returns-clause-limits c =
    reading_bounds c.args.name.now c.in_ok-reading.reading.base.now c.in_ok-reading.reading.left c.in_ok-reading.reading.done
    c.in_ok-reading.reading.suffix c.in_ok-reading.ensures

pub returns-in_err-reading-clause-value : goal.returns-in_err-reading-clause-value
returns-in_err-reading-clause-value c = c.from_residual.ensures ∙ sym (split_none c.args.name.now c.in_err-reading.ensures)

pub returns-clause-value : goal.returns-clause-value
returns-clause-value c =
    sym (split_some c.args.name.now c.in_ok-reading.reading.base.now c.in_ok-reading.reading.left c.in_ok-reading.reading.done c.in_ok-reading.reading.suffix c.in_ok-reading.ensures)
