-- The test says which texts are numbers, and such a text is read as its number.
use Rattle.std.proofs.Common.{◌≡◌, ◌∙◌, sym, true}
use Rattle.menu_order.specs.Counter.{is_number}
use Rattle.menu_order.proofs.CounterSteps.{number_test, not_number, number_read}
use Rattle.menu_order.proofs.counted.read_number.Goals as goal

pub returns-then-not-is_number : goal.returns-then-not-is_number
returns-then-not-is_number c = not_number c.args.text.now (sym c.is_number.ensures ∙ c.if-not-is_number.true)

pub returns : goal.returns
returns c =
    let is : is_number c.args.text.now ≡ true = sym c.is_number.ensures ∙ c.if-not-is_number.false in
    let read = number_read c.args.text.now c.parse.result is c.parse.ensures.value.0 in
    rw (c.ok.ensures.value, read) (number_test c.args.text.now is)
