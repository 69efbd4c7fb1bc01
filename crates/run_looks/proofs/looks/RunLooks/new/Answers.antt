use Rattle.run_looks.proofs.Kept.{empty_is_whole}
use Rattle.run_looks.proofs.looks.RunLooks.new.Goals as goal

pub returns-clause-whole : goal.returns-clause-whole
returns-clause-whole c = empty_is_whole _ c.new.ensures
