use Rattle.std.proofs.Common.{refl}
use Rattle.folder_locks.proofs.MoreHeld.{holds_same, holds_then, tells_then}
use Rattle.folder_locks.proofs.order.hold_files.Goals as goal

pub loop-path-init : goal.loop-path-init
loop-path-init g c = record {
  folders = holds_same _ _ _ _ refl;
  files = holds_same _ _ _ _ refl;
  new = record { none = λ none. refl; before = λ none. none };
}

pub loop-path-preserved : goal.loop-path-preserved
loop-path-preserved g c = record {
  folders = holds_then _ _ _ _ _ c.loop-path.invariant.folders c.in_ok-hold_wanted.ensures.folders;
  files = holds_then _ _ _ _ _ c.loop-path.invariant.files c.in_ok-hold_wanted.ensures.files;
  new = tells_then _ _ _ c.loop-path.invariant.new c.in_ok-hold_wanted.ensures.new;
}

pub returns-in_err-hold_wanted-clause-folders : goal.returns-in_err-hold_wanted-clause-folders
returns-in_err-hold_wanted-clause-folders g c =
    holds_then _ _ _ _ _ c.loop-path.invariant.folders c.in_err-hold_wanted.ensures.folders

pub returns-in_err-hold_wanted-clause-files : goal.returns-in_err-hold_wanted-clause-files
returns-in_err-hold_wanted-clause-files g c =
    holds_then _ _ _ _ _ c.loop-path.invariant.files c.in_err-hold_wanted.ensures.files

pub returns-in_err-hold_wanted-clause-new : goal.returns-in_err-hold_wanted-clause-new
returns-in_err-hold_wanted-clause-new g c =
    tells_then _ _ _ c.loop-path.invariant.new c.in_err-hold_wanted.ensures.new
