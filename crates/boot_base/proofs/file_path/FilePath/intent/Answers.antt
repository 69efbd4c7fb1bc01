use Rattle.boot_base.proofs.Normal.{normal_intent}
use Rattle.boot_base.proofs.file_path.FilePath.intent.Goals as goal

pub invariant_of-result : goal.invariant_of-result
invariant_of-result c = rw c.in_ok-text.ensures.ok normal_intent
