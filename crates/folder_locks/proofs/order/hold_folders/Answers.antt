use Rattle.std.proofs.Common.{rules}
use Rattle.folder_locks.proofs.MoreHeld.{holds_same, holds_then, tells_then}
use Rattle.folder_locks.proofs.order.hold_folders.Goals as goal

pub loop-folder-init : goal.loop-folder-init
loop-folder-init g c = record {
  folders = holds_same _ _ _ _ (search rules);
  files = search rules;
  new = search rules;
  payloads = search rules;
}

pub loop-folder-preserved : goal.loop-folder-preserved
loop-folder-preserved g c = record {
  folders = holds_then _ _ _ _ _ c.loop-folder.invariant.folders c.in_ok-hold_folder.ensures.folders;
  files = search rules;
  new = tells_then _ _ _ c.loop-folder.invariant.new c.in_ok-hold_folder.ensures.new;
  payloads = search rules;
}

pub returns-in_err-hold_folder-clause-folders : goal.returns-in_err-hold_folder-clause-folders
returns-in_err-hold_folder-clause-folders g c =
    holds_then _ _ _ _ _ c.loop-folder.invariant.folders c.in_err-hold_folder.ensures.folders

pub returns-in_err-hold_folder-clause-new : goal.returns-in_err-hold_folder-clause-new
returns-in_err-hold_folder-clause-new g c =
    tells_then _ _ _ c.loop-folder.invariant.new c.in_err-hold_folder.ensures.new
