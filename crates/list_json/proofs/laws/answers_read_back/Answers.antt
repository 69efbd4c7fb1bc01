use Rattle.list_json.proofs.HeldAnswers.{menus_read_back, sections_read_back, values_read_back}
use Rattle.list_json.proofs.laws.answers_read_back.Goals as goal

pub returns-clause-menus : goal.returns-clause-menus
returns-clause-menus c = menus_read_back

pub returns-clause-sections : goal.returns-clause-sections
returns-clause-sections c = sections_read_back

pub returns-clause-values : goal.returns-clause-values
returns-clause-values c = values_read_back
