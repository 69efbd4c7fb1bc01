-- A machine that tells nothing owes nothing of its state.
use Rattle.std.specs.Prelude.{false, IsTrue}
use Rattle.std.proofs.lemmas.Bool.{false≢true}

pub silent : IsTrue false → ⊥
silent told = false≢true told
