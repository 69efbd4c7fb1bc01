-- What waits after several calls on one name.
use Rattle.std.proofs.Common.{◌≡◌, inl, inr, ⊎_elim, ℕ, List, subst, sym}
use Rattle.name_syncs.specs.Named.{NameWaits, NothingWaits}
use Rattle.name_syncs.specs.Waiting.{KeepsSynced, Waiting}
use Rattle.name_syncs.proofs.Syncing.{before, keeps_none, keeps_then, leaves_then}

-- after none
pub name_waits_none : (old new : Waiting) (path : List ℕ) → new ≡ old → NameWaits old new path
name_waits_none old new path is =
    subst (λ (waits : Waiting). NameWaits old waits path) (sym is)
    (record {
      files = λ other waiting. waiting;
      folders = λ folder waiting. inl waiting;
      others = (keeps_none old).others;
    })

-- after two
pub name_waits_twice : (old mid new : Waiting) (path : List ℕ) → NameWaits old mid path → NameWaits mid new path → NameWaits old new path
name_waits_twice old mid new path first then = record {
  files = λ other waiting. first.files other (then.files other waiting);
  folders = λ folder waiting. ⊎_elim (first.folders folder) inr (then.folders folder waiting);
  others = leaves_then old mid new first.others then.others;
}

-- after a sync
pub name_waits_synced : (old new : Waiting) (path : List ℕ) → KeepsSynced old new → NameWaits old new path
name_waits_synced old new path kept = record {
  files = λ other waiting. before (old.files other) (new.files other) (kept.files other) waiting;
  folders = λ folder waiting. inl (before (old.folders folder) (new.folders folder) (kept.folders folder) waiting);
  others = kept.others;
}

-- ---- what doesn't wait after several syncs

-- after none
pub syncs_none : (old new : Waiting) → new ≡ old → KeepsSynced old new
syncs_none old new is = subst (λ (waits : Waiting). KeepsSynced old waits) (sym is) (keeps_none old)

-- after two
pub syncs_twice : (old mid new : Waiting) → KeepsSynced old mid → KeepsSynced mid new → KeepsSynced old new
syncs_twice old mid new first then = keeps_then old mid new first then

-- if nothing waits, nothing does after one more
pub nothing_waits_still : (old new : Waiting) → NothingWaits old → KeepsSynced old new → NothingWaits new
nothing_waits_still old new none kept = record {
  files = λ path. kept.files path (none.files path);
  folders = λ folder. kept.folders folder (none.folders folder);
}
