use Rattle.stub_replay.proofs.Predicting.{image_shows}
use Rattle.stub_replay.proofs.laws.image_shows_its_parts.Goals as goal

pub returns : goal.returns
returns c = image_shows
