use Rattle.pe_reader.proofs.Accepted.{describes}
use Rattle.pe_reader.proofs.laws.headers_are_the_fields.Goals as goal

pub returns : goal.returns
returns c = describes
