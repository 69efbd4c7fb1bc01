use Rattle.std.proofs.Common.{◌≡◌, [], All, IsTrue, map, string_bytes, take}
use Rattle.name_syncs.specs.Waiting.{AsksAmong}
use Rattle.folder_changes.specs.Clear.{IsClear}
use Rattle.folder_changes.proofs.changes.Changes.clear_names.Given as goal

-- the names so far are clear
abbrev pub invariant-loop-name : goal.invariant-loop-name
invariant-loop-name g l = record {
  asks : IsTrue g.C.Calls.tells → AsksAmong [] (g.C.Calls.waits l.fn.self) (g.C.Calls.waits l.self);
  names : IsTrue g.C.Calls.tells → g.C.Calls.tree l.self ≡ g.C.Calls.tree l.fn.self;
  clear : IsTrue g.C.Calls.tells
      → All (IsClear (g.C.Calls.waits l.self) l.folder) (map string_bytes (take l.name-index l.names));
}
