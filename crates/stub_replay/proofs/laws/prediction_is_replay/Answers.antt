use Rattle.stub_replay.proofs.Predicting.{predicted_is_replayed}
use Rattle.stub_replay.proofs.laws.prediction_is_replay.Goals as goal

pub returns : goal.returns
returns c = predicted_is_replayed
