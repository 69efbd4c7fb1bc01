use Rattle.pe_builder.proofs.ByPlace.{by_place}
use Rattle.pe_builder.proofs.laws.image_by_place.Goals as goal

pub returns : goal.returns
returns c = by_place
