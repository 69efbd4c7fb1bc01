use Rattle.stub_replay.proofs.Predicting.{predicted_of_parts}
use Rattle.stub_replay.proofs.laws.prediction_of_parts_is_replay.Goals as goal

pub returns : goal.returns
returns c = predicted_of_parts
