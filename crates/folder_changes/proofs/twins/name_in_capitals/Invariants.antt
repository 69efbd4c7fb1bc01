use Rattle.std.proofs.Common.{map, string_bytes, take}
use Rattle.folder_changes.specs.Shown.{HasNoCapitals}
use Rattle.folder_changes.proofs.twins.name_in_capitals.Given as goal

-- no name so far is that one in capitals
abbrev pub invariant-loop-other : goal.invariant-loop-other
invariant-loop-other l = HasNoCapitals (map string_bytes (take l.other-index l.names)) l.name
