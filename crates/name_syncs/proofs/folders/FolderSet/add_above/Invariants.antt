use Rattle.std.proofs.Common.{◌≡◌, length}
use denote.Text.{Utf8}
use denote.Shadow.{shadow}
use Rattle.name_syncs.specs.Folders.{parts_before_slashes, with_folders}
use Rattle.name_syncs.proofs.folders.FolderSet.add_above.Given as goal

-- what is added with the folders that are still to come is all that is to be added
abbrev pub invariant-loop-folder : goal.invariant-loop-folder
invariant-loop-folder l =
    shadow (Utf8 l.below)
    × (with_folders l.self (parts_before_slashes l.below) ≡ with_folders l.fn.self (parts_before_slashes l.path))

abbrev pub decreases-loop-folder : goal.decreases-loop-folder
decreases-loop-folder l = length l.below
