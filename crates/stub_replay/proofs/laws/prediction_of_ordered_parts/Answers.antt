use Rattle.stub_replay.proofs.Ordered.{predicted_in_order}
use Rattle.stub_replay.proofs.laws.prediction_of_ordered_parts.Goals as goal

pub returns : goal.returns
returns c = predicted_in_order
