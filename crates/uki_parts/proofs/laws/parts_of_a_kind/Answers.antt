use Rattle.uki_parts.proofs.Kept.{parts_of_kind-with_part}
use Rattle.uki_parts.proofs.laws.parts_of_a_kind.Goals as goal

pub returns : goal.returns
returns c = parts_of_kind-with_part
