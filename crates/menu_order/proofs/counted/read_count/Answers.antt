-- What a number's text is read as, as a plain function of the text.
use Rattle.menu_order.proofs.Renaming.{count_limit, count_value}
use Rattle.menu_order.proofs.counted.read_count.Goals as goal

pub returns-clause-value : goal.returns-clause-value
returns-clause-value c = count_value c.args.text.now c.read_number.result c.read_number.ensures

pub returns-clause-limit : goal.returns-clause-limit
returns-clause-limit c = count_limit c.args.text.now c.read_number.result c.read_number.ensures
