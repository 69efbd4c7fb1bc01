-- What a run has noted of its changes, and of what others have left.
use Rattle.std.specs.Prelude.{◌≡◌, ℕ, Bool, true, false, List}
use Rattle.name_syncs.specs.Folders.{has_folder}
use Rattle.name_syncs.specs.Named.{Covers}
use Rattle.name_syncs.specs.Waiting.{HasNoneLeft, Waiting}
use Rattle.name_syncs.specs.declared.named.Named.{Named}
use Rattle.folder_calls.specs.Ready.{HasNoneReplaced, MaySync}
use Rattle.folder_changes.specs.declared.ready.Ready.{Ready}

-- all that waits is noted, unless that can't be known any more
abbrev pub IsNoted : Bool → Named → Waiting → Type 0
IsNoted is_unsure named waiting = is_unsure ≡ false → Covers named waiting

-- Each folder that is kept as ready may be synced; below each that is kept as near one nobody has left a file that this
-- program may have replaced; and in each that is kept as clear nobody has left one.
pub record AreReady (ready : Ready) (waiting : Waiting) : Type 0 where
  pub folders : (folder : List ℕ) → has_folder ready.folders folder ≡ true → MaySync waiting folder
  pub near : (above : List ℕ) → has_folder ready.near above ≡ true → HasNoneReplaced waiting above
  pub clear : (folder : List ℕ) → has_folder ready.clear folder ≡ true → HasNoneLeft waiting folder

-- both
pub record IsKnown (is_unsure : Bool) (named : Named) (ready : Ready) (waiting : Waiting) : Type 0 where
  pub noted : IsNoted is_unsure named waiting
  pub cleared : AreReady ready waiting
