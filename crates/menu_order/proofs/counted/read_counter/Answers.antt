-- Which texts are no counters, and what one with a hyphen says.
use Rattle.menu_order.proofs.CounterSteps.{hyphen_nowhere, hyphen_cut, no_counter_whole, no_counter_left, no_counter_done, counter_from_parts}
use Rattle.menu_order.proofs.counted.read_counter.Goals as goal

pub returns-in_err-read_number : goal.returns-in_err-read_number
returns-in_err-read_number c =
    let whole = hyphen_nowhere c.args.text.now c.in_default.ensures.cases in
    rw c.from_residual.ensures (no_counter_whole c.args.text.now whole c.in_err-read_number.ensures)

pub returns-in_err-read_number-2 : goal.returns-in_err-read_number-2
returns-in_err-read_number-2 c =
    let cut = hyphen_cut c.args.text.now c.in-Some.left.now c.in-Some.done.now c.in-Some.ensures.cases in
    rw c.from_residual-in_err-read_number-2.ensures (no_counter_left c.args.text.now c.in-Some.left.now c.in-Some.done.now cut.0 cut.1 c.in_err-read_number-2.ensures)

pub returns-in_err-read_number-3 : goal.returns-in_err-read_number-3
returns-in_err-read_number-3 c =
    let cut = hyphen_cut c.args.text.now c.in-Some.left.now c.in-Some.done.now c.in-Some.ensures.cases in
    rw c.from_residual-in_err-read_number-3.ensures (no_counter_done c.args.text.now c.in-Some.left.now c.in-Some.done.now cut.0 cut.1 c.in_err-read_number-3.ensures)

pub returns : goal.returns
returns c =
    let cut = hyphen_cut c.args.text.now c.in-Some.left.now c.in-Some.done.now c.in-Some.ensures.cases in
    counter_from_parts c.args.text.now c.in-Some.left.now c.in-Some.done.now _ _ cut.0 c.in_ok-read_number-2.ensures c.in_ok-read_number-3.ensures
