use Rattle.std.proofs.Common.{List, String, Global, map, string_bytes, subst, take_all}
use Rattle.folder_changes.specs.Shown.{HasNoCapitals}
use Rattle.folder_changes.proofs.twins.name_in_capitals.Goals as goal

pub returns-clause-none : goal.returns-clause-none
returns-clause-none c none =
    subst (λ (names : List (String Global)). HasNoCapitals (map string_bytes names) c.args.name.now)
    (take_all c.loop-other.other-index c.args.names.now c.loop-other-test.false) c.loop-other.invariant
