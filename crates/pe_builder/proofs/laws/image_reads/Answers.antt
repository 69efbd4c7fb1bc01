use Rattle.pe_builder.proofs.FinishedImage.{pe_of-finished_image}
use Rattle.pe_builder.proofs.laws.image_reads.Goals as goal

pub returns : goal.returns
returns c = pe_of-finished_image
