use Rattle.std.proofs.Common.{◌≡◌, length}
use denote.Text.{Utf8}
use denote.Shadow.{shadow}
use Rattle.name_syncs.specs.Folders.{folders_above, unsettled_above, with_folders}
use Rattle.name_syncs.proofs.folders.FolderSet.add_unsettled_above.Given as goal

-- what is added with the folders that are still to come is all that is to be added
abbrev pub invariant-loop-above : goal.invariant-loop-above
invariant-loop-above l =
    shadow (Utf8 l.below)
    × (with_folders l.self (unsettled_above l.settled l.below (folders_above l.below))
    ≡ with_folders l.fn.self (unsettled_above l.settled l.folder (folders_above l.folder)))

abbrev pub decreases-loop-above : goal.decreases-loop-above
decreases-loop-above l = length l.below
