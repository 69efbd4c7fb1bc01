use Rattle.std.proofs.Common.{IsTrue}
use Rattle.folder_changes.specs.Rescues.{HaveBytes}
use Rattle.folder_changes.proofs.half.aliases_of.Given as goal

-- each so far has bytes
abbrev pub invariant-loop-alias : goal.invariant-loop-alias
invariant-loop-alias g l = IsTrue g.C.Calls.tells → HaveBytes (g.C.Calls.tree l.calls) l.aliases
