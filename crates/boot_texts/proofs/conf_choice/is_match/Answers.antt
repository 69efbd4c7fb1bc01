use Rattle.boot_texts.proofs.PatternDecisions.{decided}
use Rattle.boot_texts.proofs.conf_choice.is_match.Goals as goal

pub returns : goal.returns
returns c = decided c.args.pattern.now c.args.id.now c.matches.result c.matches.ensures
