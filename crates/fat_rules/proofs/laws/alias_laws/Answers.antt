use Rattle.fat_rules.proofs.Aliases.{generated_are_aliases}
use Rattle.fat_rules.proofs.laws.alias_laws.Goals as goal

pub returns-clause-generated : goal.returns-clause-generated
returns-clause-generated c = generated_are_aliases
