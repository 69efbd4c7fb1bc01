use Rattle.run_looks.proofs.NameSets.{sets_equal}
use Rattle.run_looks.proofs.names.LastingNames.is_same.Goals as goal

pub returns : goal.returns
returns c =
    let equal = sets_equal c.self.inside.names c.other.inside.names c.eq.result c.eq.ensures in
    rw (← c.self.view_is, ← c.other.view_is) equal
