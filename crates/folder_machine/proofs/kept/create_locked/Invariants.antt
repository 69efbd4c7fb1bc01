use Rattle.std.proofs.Common.{IsTrue}
use Rattle.name_syncs.specs.Named.{NameWaits}
use Rattle.folder_calls.specs.Rows.{KeepsNamesBut}
use Rattle.folder_machine.proofs.kept.create_locked.Given as goal

-- nothing but the name has come or gone since the call began
abbrev pub invariant-loop : goal.invariant-loop
invariant-loop g l = record {
  waits : IsTrue g.C.Calls.tells → NameWaits (g.C.Calls.waits l.fn.changes) (g.C.Calls.waits l.changes) l.fn.path;
  kept : IsTrue g.C.Calls.tells → KeepsNamesBut l.fn.path (g.C.Calls.tree l.fn.changes) (g.C.Calls.tree l.changes);
}
