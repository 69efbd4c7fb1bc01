use Rattle.std.proofs.Common.{◌≡◌, [], All, IsTrue, take}
use Rattle.name_syncs.specs.Waiting.{AsksAmong}
use Rattle.folder_calls.specs.Ready.{HasNoneReplaced}
use Rattle.folder_changes.proofs.changes.Changes.clear_each_below.Given as goal

-- the folders so far are clear
abbrev pub invariant-loop-above : goal.invariant-loop-above
invariant-loop-above g l = record {
  asks : IsTrue g.C.Calls.tells → AsksAmong [] (g.C.Calls.waits l.fn.self) (g.C.Calls.waits l.self);
  names : IsTrue g.C.Calls.tells → g.C.Calls.tree l.self ≡ g.C.Calls.tree l.fn.self;
  near : IsTrue g.C.Calls.tells → All (HasNoneReplaced (g.C.Calls.waits l.self)) (take l.above-index l.near);
}
