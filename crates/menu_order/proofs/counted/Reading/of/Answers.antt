-- Which names have no counter, and what the parts of one that has are.
use Rattle.std.proofs.Common.{sym, ◌∙◌}
use Rattle.std.proofs.lemmas.Bool.{eqb-true, eqb-false}
use Rattle.menu_order.proofs.CounterSteps.{plus_nowhere, plus_cut, no_suffix, no_plus, no_base, no_counter, counted_from_parts}
use Rattle.menu_order.proofs.counted.Reading.of.Goals as goal

pub returns-in_err-stem : goal.returns-in_err-stem
returns-in_err-stem c = rw c.from_residual.ensures (no_suffix c.args.name.now c.in_err-stem.ensures)

pub returns-in_err-base : goal.returns-in_err-base
returns-in_err-base c =
    let nowhere = plus_nowhere c.in_ok-stem.stem.now c.in_err-base.ensures.cases in
    rw c.from_residual-in_err-base.ensures (no_plus c.args.name.now c.in_ok-stem.stem.now c.in_ok-stem.suffix c.in_ok-stem.ensures nowhere)

pub returns-then-is_empty : goal.returns-then-is_empty
returns-then-is_empty c =
    let cut = plus_cut c.in_ok-stem.stem.now c.in_ok-base.base.now c.in_ok-base.counter.now c.in_ok-base.ensures.cases in
    no_base c.args.name.now c.in_ok-stem.stem.now c.in_ok-base.base.now c.in_ok-base.counter.now c.in_ok-stem.suffix c.in_ok-stem.ensures cut.0 cut.1
    (eqb-true _ 0 (sym c.is_empty.ensures ∙ c.if-is_empty.true))

pub returns-in_err-left : goal.returns-in_err-left
returns-in_err-left c =
    let cut = plus_cut c.in_ok-stem.stem.now c.in_ok-base.base.now c.in_ok-base.counter.now c.in_ok-base.ensures.cases in
    rw c.from_residual-in_err-left.ensures
    (no_counter c.args.name.now c.in_ok-stem.stem.now c.in_ok-base.base.now c.in_ok-base.counter.now c.in_ok-stem.suffix c.in_ok-stem.ensures cut.0 cut.1 c.in_err-left.ensures)

pub returns : goal.returns
returns c =
    let cut = plus_cut c.in_ok-stem.stem.now c.in_ok-base.base.now c.in_ok-base.counter.now c.in_ok-base.ensures.cases in
    counted_from_parts c.args.name.now c.in_ok-stem.stem.now c.in_ok-base.base.now c.in_ok-base.counter.now c.in_ok-stem.suffix _ _ c.in_ok-stem.ensures cut.0
    (eqb-false _ 0 (sym c.is_empty.ensures ∙ c.if-is_empty.false)) c.in_ok-left.ensures
