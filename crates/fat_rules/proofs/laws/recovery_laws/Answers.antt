use Rattle.fat_rules.proofs.Slots.{frees_nothing_shared, keeps_the_last_name, checks_once}
use Rattle.fat_rules.proofs.laws.recovery_laws.Goals as goal

pub returns-clause-shared : goal.returns-clause-shared
returns-clause-shared c = frees_nothing_shared

pub returns-clause-last : goal.returns-clause-last
returns-clause-last c = keeps_the_last_name

pub returns-clause-once : goal.returns-clause-once
returns-clause-once c = checks_once
