use Rattle.std.proofs.Common.{◌≡◌, false, []}
use Rattle.folder_locks.specs.Holding.{HoldsMore, TellsNewFolders}
use Rattle.folder_locks.proofs.order.hold_folders.Given as goal

-- what was held as the call began is held still
abbrev pub invariant-loop-folder : goal.invariant-loop-folder
invariant-loop-folder g l = record {
  folders : HoldsMore g.C.Calls.tells g.C.Calls.inode l.fn.locks.folders.items l.locks.folders.items;
  files : l.locks.files ≡ l.fn.locks.files;
  new : TellsNewFolders l.fn.locks l.locks;
  payloads : l.locks.payloads ≡ record { has_root = false; below = [] };
}
