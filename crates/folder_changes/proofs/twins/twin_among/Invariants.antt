use Rattle.std.proofs.Common.{◌≡◌, All, IsTrue, false, map, string_bytes, take}
use Rattle.folder_changes.specs.Sought.{is_twins_name}
use Rattle.folder_changes.proofs.twins.twin_among.Given as goal

-- no name so far is that of the twin
abbrev pub invariant-loop-other : goal.invariant-loop-other
invariant-loop-other g l =
    IsTrue g.C.Calls.tells
    → All (λ name. is_twins_name (g.C.Calls.tree l.calls) l.sought name ≡ false) (map string_bytes (take l.other-index l.names))
