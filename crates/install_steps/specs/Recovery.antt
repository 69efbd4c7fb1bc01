-- What a recovery does to what boot sees.
use Rattle.std.specs.Prelude.{◌≡◌, ◌⊎◌, List}
use Rattle.boot_machine.specs.Disk.{Files, State, HasOneCandidate, recovered_view}
use Rattle.boot_machine.specs.Images.{IsImage, IsFirm, IsSettled}
use Rattle.boot_machine.specs.Moments.{Timeline, EachSince}
use Rattle.boot_machine.specs.Reading.{IsIdleMoment, OnlyReads}
use Rattle.boot_machine.specs.declared.machine.Printed.{Printed}

-- boot sees the same, and nothing more is printed
abbrev pub SeesSame : State → Files → List Printed → Type 0
SeesSame old m o = (recovered_view m ≡ recovered_view old.files) × (o ≡ old.printed)

-- a stop leaves what it would have left, or boot sees the same; and nothing more is printed
abbrev pub StaysOrSame : State → Files → List Printed → Type 0
StaysOrSame old m o = (IsImage old m ⊎ (recovered_view m ≡ recovered_view old.files)) × (o ≡ old.printed)

-- At some time the names were synced. At each moment up to it a stop leaves what it would have left before, and from it
-- on boot sees the same at each moment.
pub record SameFrom {D : Type 0} (time : Timeline D) (state : D → State) (old new : D) : Type 0 where
  pub synced : D
  pub until : EachSince time old synced (IsIdleMoment (state old))
  pub one : HasOneCandidate (state synced)
  pub files : (state synced).files ≡ (state old).files
  pub from : EachSince time synced new (SeesSame (state old))

-- A recovery of a firm machine, whatever its answer: it has only read, or the names were synced and from then on boot
-- sees the same.
pub record RecoversTo {D : Type 0} (time : Timeline D) (state : D → State) (old new : D) : Type 0 where
  pub moments : EachSince time old new (StaysOrSame (state old))
  pub firm : IsFirm (state new)
  pub files : recovered_view (state new).files ≡ recovered_view (state old).files
  pub synced : OnlyReads time state old new ⊎ (IsSettled (state new) × SameFrom time state old new)
