-- Steps that print nothing.
use Rattle.std.proofs.Common.{◌≡◌, inl, ⊎_elim, ℕ, Bool, false, IsTrue, List, [], refl, sym, ap, ◌∙◌, subst, Result, Ok, Err}
use Rattle.boot_base.specs.Paths.{Path, is_temp}
use Rattle.boot_machine.specs.Prelude.{Counts, Files, State, IsImage, Timeline, Elapses, IsIdleMoment, OnlyReads, CreateRow, AppendRow, SyncFileRow, RenameRow, UnlinkRow, SyncNamesRow, after_create, contents}
use Rattle.boot_machine.specs.declared.machine.Printed.{Printed}
use Rattle.boot_machine.proofs.Elapsing.{joined, weaken, one_call, at_once}
use Rattle.boot_machine.proofs.Printing.{not_printed}
use Rattle.boot_machine.proofs.Soft.{by_done_or_not}
use Rattle.install_steps.specs.Appends.{AppendsOnly, HasAppended}
use Rattle.install_steps.specs.Steps.{Keeps, KeepsTempsBut, LeavesAlone, PrintsNothing}
use Rattle.install_steps.proofs.KeepLemmas.{IsOwn, keeps_on, keeps_same, others_append, others_insert, others_move, others_none, others_on, others_remove, others_same}

-- what a call keeps beside the temporary files that are the step's own
record Spares (own : List Path) (s t : State) : Type 0 where
  pub keeps : Keeps s t
  pub others : KeepsTempsBut own s.files t.files

spares_same : (own : List Path) (s t : State) → t ≡ s → Spares own s t
spares_same own s t is = record { keeps = keeps_same s t is; others = others_same own s.files t.files (ap (λ (v : State). v.files) is) }

-- it stays where a row says what a call does
kept_at : (own : List Path) (s t u : State) → t ≡ u → u.printed ≡ s.printed → u.input ≡ s.input → KeepsTempsBut own s.files u.files → Spares own s t
kept_at own s t u is printed input others = subst (Spares own s) (sym is) (record { keeps = record { printed = printed; input = input }; others = others })

spares_create : {E : Type 0} (own : List Path) (s t : State) (p : Path) (r : Result Unit E) → IsOwn own p → CreateRow s t p r → Spares own s t
spares_create own s t p r mine row = by_done_or_not (Spares own s) s (after_create p s) t r (spares_same own s s refl)
    (kept_at own s _ (after_create p s) refl refl refl (others_insert own s.files p [] mine)) row

spares_append : {E : Type 0} (own : List Path) (s t : State) (p : Path) (bytes : List ℕ) (r : Result Unit E) → IsOwn own p → AppendRow s t p bytes r → Spares own s t
spares_append own s t p bytes (Ok u) mine row = kept_at own s t _ row refl refl (others_append own s.files p bytes mine)
spares_append own s t p bytes (Err e) mine row =
    ⊎_elim (λ is. spares_same own s t is) (λ some. kept_at own s t _ some.1 refl refl (others_append own s.files p _ mine)) row

spares_sync_file : {E : Type 0} (own : List Path) (s t : State) (p : Path) (r : Result Unit E) → SyncFileRow s t p r → Spares own s t
spares_sync_file own s t p (Ok u) row = kept_at own s t _ row refl refl (others_same own s.files s.files refl)
spares_sync_file own s t p (Err e) row = spares_same own s t row

spares_rename : {E : Type 0} (own : List Path) (s t : State) (from to : Path) (r : Result Unit E) → IsOwn own from → IsOwn own to → RenameRow s t from to r → Spares own s t
spares_rename own s t from to (Ok u) mine shown row = kept_at own s t _ row refl refl (others_move own s.files from to mine shown)
spares_rename own s t from to (Err e) mine shown row =
    ⊎_elim (λ is. spares_same own s t is) (λ either. ⊎_elim
    (λ is. kept_at own s t _ is refl refl (others_insert own s.files to (contents s.files from) shown))
    (λ is. kept_at own s t _ is refl refl (others_move own s.files from to mine shown)) either) row

spares_unlink : {E : Type 0} (own : List Path) (s t : State) (p : Path) (r : Result Unit E) → IsOwn own p → UnlinkRow s t p r → Spares own s t
spares_unlink own s t p (Ok u) mine row = kept_at own s t _ row refl refl (others_remove own s.files p mine)
spares_unlink own s t p (Err e) mine row =
    ⊎_elim (λ is. spares_same own s t is) (λ is. kept_at own s t _ is refl refl (others_remove own s.files p mine)) row

spares_sync_names : {E : Type 0} (own : List Path) (s t : State) (r : Result Unit E) → SyncNamesRow s t r → Spares own s t
spares_sync_names own s t (Ok u) row = kept_at own s t _ row refl refl (others_same own s.files s.files refl)
spares_sync_names own s t (Err e) row = spares_same own s t row

spares_appends : (own : List Path) (s t : State) (p : Path) → IsOwn own p → HasAppended p s t → Spares own s t
spares_appends own s t p mine left =
    ⊎_elim (spares_same own s t) (λ more. kept_at own s t _ more.1 refl refl (others_append own s.files p _ mine)) left

module _ {D : Type 0} (time : Timeline D) (state : D → State) where
  -- nothing was printed since old, and what a step doesn't touch that has these temporary files is as it was then
  pub record Quiet (own : List Path) (old now : D) : Type 0 where
    pub moments : PrintsNothing time state old now
    pub keeps : Keeps (state old) (state now)
    pub others : KeepsTempsBut own (state old).files (state now).files

  -- no call was made
  pub quiet_start : (own : List Path) (old : D) → ((m : Files) (o : List Printed) → time.since old (time.clock old) m o → IsImage (state old) m × (o ≡ (state old).printed)) → Quiet own old old
  quiet_start own old only_now = record {
    moments = at_once time state (λ m o. o ≡ (state old).printed) old (λ m o left. (only_now m o left).1);
    keeps = keeps_same (state old) (state old) refl;
    others = others_same own (state old).files (state old).files refl;
  }

  -- moments go on from a state that has kept all
  on : (own : List Path) (old mid new : D) → Quiet own old mid → PrintsNothing time state mid new → Spares own (state mid) (state new) → Quiet own old new
  on own old mid new so_far moments spared = record {
    moments = joined time state (λ m o. o ≡ (state old).printed) old mid new so_far.moments
        (weaken time state (λ m o. o ≡ (state mid).printed) (λ m o. o ≡ (state old).printed) mid new (λ m o is. is ∙ so_far.keeps.printed) moments);
    keeps = keeps_on (state old) (state mid) (state new) so_far.keeps spared.keeps;
    others = others_on own (state old).files (state mid).files (state new).files so_far.others spared.others;
  }

  -- a part of a step more
  pub quiet_then : {own : List Path} (old mid new : D) → Quiet own old mid → Quiet own mid new → Quiet own old new
  quiet_then {own} old mid new so_far part = on own old mid new so_far part.moments (record { keeps = part.keeps; others = part.others })

  -- reads
  pub quiet_reads : {own : List Path} (old mid new : D) → Quiet own old mid → OnlyReads time state mid new → Quiet own old new
  quiet_reads {own} old mid new so_far reads =
      on own old mid new so_far (weaken time state (IsIdleMoment (state mid)) (λ m o. o ≡ (state mid).printed) mid new (λ m o stays. stays.1) reads.moments)
      (spares_same own (state mid) (state new) reads.same)

  -- appends
  pub quiet_appends : {own : List Path} (path : Path) (old mid new : D) → IsOwn own path → Quiet own old mid → AppendsOnly time state path mid new → Quiet own old new
  quiet_appends {own} path old mid new mine so_far appends =
      on own old mid new so_far (weaken time state (λ m o. _) (λ m o. o ≡ (state mid).printed) mid new (λ m o stays. stays.1) appends.moments)
      (spares_appends own (state mid) (state new) path mine appends.left)

-- One call more, whatever its answer.
module _ {D : Type 0} (time : Timeline D) (state : D → State) {own : List Path} (old mid new : D) (so_far : Quiet time state own old mid)
    (only_now : (m : Files) (o : List Printed) → time.since mid (time.clock mid) m o → IsImage (state mid) m × (o ≡ (state mid).printed)) (elapsed : Elapses time state mid new) where
  call : Spares own (state mid) (state new) → Quiet time state own old new
  call spared = on time state own old mid new so_far
      (one_call time state (λ m o. o ≡ (state mid).printed) mid new (λ m o left. (only_now m o left).1) elapsed
      (λ m o moment. not_printed (state mid).printed o (state new).printed spared.keeps.printed moment.printed))
      spared

  pub quiet-read : state new ≡ state mid → Quiet time state own old new
  quiet-read same = call (spares_same own (state mid) (state new) same)

  pub quiet-create : {E : Type 0} (r : Result Unit E) (p : Path) → IsOwn own p → CreateRow (state mid) (state new) p r → Quiet time state own old new
  quiet-create r p mine row = call (spares_create own (state mid) (state new) p r mine row)

  pub quiet-append : {E : Type 0} (r : Result Unit E) (p : Path) (bytes : List ℕ) → IsOwn own p → AppendRow (state mid) (state new) p bytes r → Quiet time state own old new
  quiet-append r p bytes mine row = call (spares_append own (state mid) (state new) p bytes r mine row)

  pub quiet-sync_file : {E : Type 0} (r : Result Unit E) (p : Path) → SyncFileRow (state mid) (state new) p r → Quiet time state own old new
  quiet-sync_file r p row = call (spares_sync_file own (state mid) (state new) p r row)

  pub quiet-rename : {E : Type 0} (r : Result Unit E) (from to : Path) → IsOwn own from → is_temp to ≡ false → RenameRow (state mid) (state new) from to r → Quiet time state own old new
  quiet-rename r from to mine shown row = call (spares_rename own (state mid) (state new) from to r mine (inl shown) row)

  pub quiet-unlink : {E : Type 0} (r : Result Unit E) (p : Path) → IsOwn own p → UnlinkRow (state mid) (state new) p r → Quiet time state own old new
  quiet-unlink r p mine row = call (spares_unlink own (state mid) (state new) p r mine row)

  pub quiet-sync_names : {E : Type 0} (r : Result Unit E) → SyncNamesRow (state mid) (state new) r → Quiet time state own old new
  quiet-sync_names r row = call (spares_sync_names own (state mid) (state new) r row)

-- What a step leaves alone, of what it came to.
module _ {D : Type 0} {tells : Bool} {time : Timeline D} {state : D → State} {counts : D → Counts} {causes : Counts → Counts → Type 0} {old new : D} where
  pub alone_by : {own : List Path} → (IsTrue tells → Quiet time state own old new) → causes (counts old) (counts new) → LeavesAlone tells time state counts causes own old new
  alone_by quiet counted = record {
    keeps = λ told. (quiet told).keeps;
    temps = λ told. (quiet told).others;
    quiet = λ told. (quiet told).moments;
    counted = counted;
  }

  pub quiet_of : {own : List Path} → LeavesAlone tells time state counts causes own old new → IsTrue tells → Quiet time state own old new
  quiet_of alone told = record { moments = alone.quiet told; keeps = alone.keeps told; others = alone.temps told }

  -- of a part that has no temporary file of its own
  pub quiet_bare : (own : List Path) → LeavesAlone tells time state counts causes [] old new → IsTrue tells → Quiet time state own old new
  quiet_bare own alone told = record {
    moments = alone.quiet told;
    keeps = alone.keeps told;
    others = others_none own (state old).files (state new).files (alone.temps told);
  }
