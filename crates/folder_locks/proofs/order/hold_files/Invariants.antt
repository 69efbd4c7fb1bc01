use Rattle.folder_locks.specs.Holding.{HoldsMore, TellsNewFolders}
use Rattle.folder_locks.proofs.order.hold_files.Given as goal

-- what was held as the call began is held still
abbrev pub invariant-loop-path : goal.invariant-loop-path
invariant-loop-path g l = record {
  folders : HoldsMore g.C.Calls.tells g.C.Calls.inode l.fn.locks.folders.items l.locks.folders.items;
  files : HoldsMore g.C.Calls.tells g.C.Calls.inode l.fn.locks.files.items l.locks.files.items;
  new : TellsNewFolders l.fn.locks l.locks;
}
