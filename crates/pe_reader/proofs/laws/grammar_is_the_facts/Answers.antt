use Rattle.pe_reader.proofs.Accepted.{accepts_facts}
use Rattle.pe_reader.proofs.laws.grammar_is_the_facts.Goals as goal

pub returns : goal.returns
returns c = accepts_facts
