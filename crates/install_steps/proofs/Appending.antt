-- Laws of calls that append to one file.
use Rattle.std.proofs.Common.{◌≡◌, Bool, true, false, IsTrue, List, ℕ, subst, Result, Ok, Err, IsErr}
use Rattle.boot_base.specs.Paths.{Path, is_temp}
use Rattle.boot_machine.specs.Prelude.{Counts, CountsDisk, DiskFailed, Files, State, has, Timeline, Elapses, IsIdleMoment, AppendRow, contents, Sent}
use Rattle.install_steps.specs.Appends.{Appends}
use Rattle.install_steps.specs.proofs.AppendLaws.{only_none, only_once, only_on, only-there, only-source}

module _ {D : Type 0} {tells : Bool} {time : Timeline D} {state : D → State} {counts : D → Counts} {causes : Counts → Counts → Type 0} {path : Path} where
  -- no call is made
  pub appends_none : {old : D} → ((m : Files) (o : Sent) → IsTrue tells → time.since old (time.clock old) m o → IsIdleMoment (state old) m o) → causes (counts old) (counts old)
      → Appends tells time state counts causes path old old
  appends_none {old} only_now counted = record {
    only = λ told. only_none time state path old (λ m o left. only_now m o told left);
    counted = counted;
  }

  -- one call, whatever its answer
  pub appends_once : {E : Type 0} {old new : D} (bytes : List ℕ) (r : Result Unit E) → ((m : Files) (o : Sent) → IsTrue tells → time.since old (time.clock old) m o → IsIdleMoment (state old) m o)
      → (IsTrue tells → Elapses time state old new) → (IsTrue tells → AppendRow (state old) (state new) path bytes r)
      → causes (counts old) (counts new) → Appends tells time state counts causes path old new
  appends_once {E} {old} {new} bytes r only_now elapsed row counted = record {
    only = λ told. only_once time state path old new bytes r (λ m o left. only_now m o told left) (elapsed told) (row told);
    counted = counted;
  }

  -- two parts of a run, of which the first was answered
  pub appends_on : {old mid new : D} → Appends tells time state counts (λ before now. now ≡ before) path old mid → Appends tells time state counts causes path mid new
      → Appends tells time state counts causes path old new
  appends_on {old} {mid} {new} first second = record {
    only = λ told. only_on time state path old mid new (first.only told) (second.only told);
    counted = subst (λ (c : Counts). causes c (counts new)) first.counted second.counted;
  }

  -- the path is there still
  pub appends-there : {old new : D} → Appends tells time state counts causes path old new → (IsTrue tells → has (state old).files path ≡ true) → IsTrue tells → has (state new).files path ≡ true
  appends-there {old} {new} appends there told = only-there time state path old new (appends.only told) (there told)

  -- a boot file is as it was
  pub appends-source : {old new : D} (q : Path) → is_temp path ≡ true → is_temp q ≡ false → Appends tells time state counts causes path old new → IsTrue tells
      → contents (state new).files q ≡ contents (state old).files q
  appends-source {old} {new} q temp shown appends told = only-source time state path old new q temp shown (appends.only told)

module _ {D : Type 0} {tells : Bool} {time : Timeline D} {state : D → State} {counts : D → Counts} {path : Path} where
  -- two parts of a run, of which the second failed and its error is handed on
  pub appends_failed : {E : Type 0} {old mid new : D} (r : Result Unit E) → IsErr r → Appends tells time state counts (λ before now. now ≡ before) path old mid
      → Appends tells time state counts DiskFailed path mid new → Appends tells time state counts (CountsDisk r) path old new
  appends_failed (Ok u) err first second = cc
  appends_failed (Err e) err first second = appends_on first second
