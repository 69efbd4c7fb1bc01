use Rattle.pe_builder.proofs.ByName.{loaded_bytes-finished_image}
use Rattle.pe_builder.proofs.laws.image_loads.Goals as goal

pub returns : goal.returns
returns c = loaded_bytes-finished_image
