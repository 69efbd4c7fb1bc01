use Rattle.uki_parts.proofs.Padded.{bytes_of-joined}
use Rattle.uki_parts.proofs.laws.joined_bytes_of_initrds.Goals as goal

pub returns : goal.returns
returns c = bytes_of-joined
