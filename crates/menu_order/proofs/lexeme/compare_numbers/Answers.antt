-- The comparison by lengths and bytes is that of the two numbers.
use Rattle.menu_order.proofs.LexemeNumbers.{numbers_order}
use Rattle.menu_order.proofs.lexeme.compare_numbers.Goals as goal

pub returns : goal.returns
returns c =
    let order = numbers_order c.args.a.now c.args.b.now c.requires.left c.requires.right in
    rw (c.then.ensures, c.cmp.ensures, c.cmp-2.ensures, c.without_leading_zeros-left.ensures, c.without_leading_zeros-right.ensures) order
