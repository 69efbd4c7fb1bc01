-- A run over lines that were found behind a recovery.
use Rattle.std.proofs.Common.{◌≡◌, inl, inr, ⊎_elim, ℕ, zero, suc, Bool, false, List, [], ◌∷◌, ◌++◌, take, drop, refl, sym, ap, ◌∙◌, subst, arith, Result, Ok, Err, IsErr, IsErrAnd, append-nil}
use Rattle.boot_machine.specs.Prelude.{Files, State, HasOneCandidate, IsIn, IsSound, recovered_view, IsFirm, IsSettled, Timeline, EachSince, IsIdleMoment, OnlyReads, Sent, Adds, latest_view, recovered_now, recovered_views}
use Rattle.boot_machine.proofs.Elapsing.{weaken, joined}
use Rattle.boot_machine.proofs.Seeing.{latest_view-recovered_views, one_view, only_view, recovered_now_in, sees}
use Rattle.install_steps.specs.Recovery.{RecoversTo, SameFrom, SeesSame, StaysOrSame}
use Rattle.command_plans.specs.Prelude.{End, Stopped, Finished, NoMemory, DiskFails, PipeFails, left_by, end_of}
use Rattle.command_plans.specs.declared.outcome.RunError.{RunError}
use Rattle.command_plans.proofs.Exits.{if_ok, if_err}
use Rattle.boot_run.specs.History.{BreaksBehind, EndsBefore, Recovers, Runs, any_refused, printed_by, states}
use Rattle.boot_run.specs.Lines.{is_unread, line_deed}
use Rattle.boot_run.specs.RunsTo.{IsSyncedBy, IsUnsynced, RunsAfresh, RunsTo}
use Rattle.boot_run.specs.Step.{some_refused}
use Rattle.boot_run.specs.declared.line.Line.{Line}
use Rattle.boot_run.proofs.Recovering.{broken_after, performed_not}
use Rattle.boot_run.proofs.Running.{runs_none}
use Rattle.boot_run.proofs.Synced.{command_settles, said_latest, unsynced_yet}
use Rattle.boot_run.proofs.Topping.{refused-is}

recovers_same : (a b new : List Files) (end : End) → latest_view a ≡ latest_view b → Recovers a new end → Recovers b new end
recovers_same a b new NoMemory same is = λ v there. is v there ∙ same
recovers_same a b new DiskFails same is = λ v there. is v there ∙ same
recovers_same a b new PipeFails same is = λ v there. is v there ∙ same
recovers_same a b new Stopped same is = absurd is
recovers_same a b new Finished same is = absurd is

-- A run from the one view that a recovery leaves is a run from the state that was recovered, where its first line is a
-- command.
module _ (v : Files) (old : List Files) (last : latest_view old ≡ v) (inside : IsIn v old) (line : Line) (command : is_unread line ≡ false) where
  left_alike : left_by (line_deed v line) (v ∷ []) ≡ left_by (line_deed (latest_view old) line) old
  left_alike =
      let settles = command_settles v line command in
      let alike : left_by (line_deed v line) (v ∷ []) ≡ left_by (line_deed v line) old = rw settles refl in
      alike ∙ ap (λ x. left_by (line_deed x line) old) (sym last)

  pub states_alike : (rest : List Line) → states (v ∷ []) (line ∷ rest) ≡ states old (line ∷ rest)
  states_alike rest = ap (λ s. states s rest) left_alike

  said_alike : (lines : List Line) → printed_by (v ∷ []) lines ≡ printed_by old lines
  said_alike lines = said_latest (v ∷ []) old lines (sym last)

  broken_alike : (new : List Files) (part : Sent) (end : End) → BreaksBehind (line_deed v line) (v ∷ []) new part end
      → BreaksBehind (line_deed (latest_view old) line) old new part end
  broken_alike new part end (inl breaks) =
      subst (λ x. BreaksBehind (line_deed x line) old new part end) (sym last)
      (broken_after v old last inside (line_deed v line) (command_settles v line command) new part end breaks)
  broken_alike new part end (inr recovers) = inr (recovers.0, recovers_same (v ∷ []) old new end (sym last) recovers.1)

  ends_alike : (rest : List Line) (whole : ℕ) (new : List Files) (part : Sent) (end : End)
      → EndsBefore (drop whole (line ∷ rest)) (states (v ∷ []) (take whole (line ∷ rest))) new part end
      → EndsBefore (drop whole (line ∷ rest)) (states old (take whole (line ∷ rest))) new part end
  ends_alike rest zero new part end ends = broken_alike new part end ends
  ends_alike rest (suc whole) new part end ends =
      subst (λ s. EndsBefore (drop whole rest) s new part end) (states_alike (take whole rest)) ends

  pub runs_alike : (rest : List Line) (new : List Files) (sent : Sent) (end : End) → Runs (v ∷ []) (line ∷ rest) new sent end
      → Runs old (line ∷ rest) new sent end
  runs_alike rest new sent end runs = record {
    whole = runs.whole;
    within = runs.within;
    part = runs.part;
    printed = runs.printed ∙ ap (λ (l : Sent). l ++ runs.part) (said_alike (take runs.whole (line ∷ rest)));
    ends = ends_alike rest runs.whole new runs.part end runs.ends;
  }

module _ {D : Type 0} (time : Timeline D) (state : D → State) where
  abbrev RunAt : D → List Line → Files → Sent → Type 0
  RunAt old lines image printed =
      Adds (state old).printed printed (λ sent. Runs (recovered_views (state old)) lines (recovered_view image ∷ []) sent Stopped)

  -- a stop in the recovery is one before the run
  stop_before : (old : D) (lines : List Line) → IsSound (state old) → IsFirm (state old) → (m : Files) (o : Sent)
      → StaysOrSame (state old) m o → RunAt old lines m o
  stop_before old lines sound firm m o stays = (
    [],
    stays.1 ∙ sym (append-nil (state old).printed),
    runs_none (recovered_views (state old)) lines (recovered_view m)
        (⊎_elim (sees (state old) sound firm m)
        (λ same. subst (λ x. IsIn x (recovered_views (state old))) (sym same) (recovered_now_in (state old))) stays.0),
  )

  -- from its sync on it began with the files as they were
  afresh : (old : D) (lines : List Line) (m : Files) (o : Sent) → SeesSame (state old) m o → RunsAfresh (state old) lines m o
  afresh old lines m o same = (
    [],
    same.1 ∙ sym (append-nil (state old).printed),
    runs_none (latest_view (recovered_views (state old)) ∷ []) lines (recovered_view m)
        (inl (same.0 ∙ sym (latest_view-recovered_views (state old)))),
  )

  module _ (old mid new : D) (line : Line) (rest : List Line) (command : is_unread line ≡ false)
      (sound : IsSound (state old)) (firm : IsFirm (state old)) (recovers : RecoversTo time state old mid)
      (one : HasOneCandidate (state mid)) (printed : (state mid).printed ≡ (state old).printed) where
    v : Files
    v = recovered_now (state mid)

    first : List Files
    first = recovered_views (state old)

    last : latest_view first ≡ v
    unfolding v first
    last = latest_view-recovered_views (state old) ∙ sym recovers.files

    inside : IsIn v first
    unfolding v first
    inside = subst (λ x. IsIn x (recovered_views (state old))) (sym recovers.files) (recovered_now_in (state old))

    mid_is : recovered_views (state mid) ≡ v ∷ []
    unfolding v
    mid_is = one_view (state mid) one

    adds_alike : (left : List Files) (o : Sent) (end : End)
        → Adds (state mid).printed o (λ sent. Runs (recovered_views (state mid)) (line ∷ rest) left sent end)
        → Adds (state old).printed o (λ sent. Runs first (line ∷ rest) left sent end)
    adds_alike left o end adds = (
      adds.0,
      adds.1 ∙ ap (λ (l : Sent). l ++ adds.0) printed,
      runs_alike v first last inside line command rest left adds.0 end
          (subst (λ s. Runs s (line ∷ rest) left adds.0 end) mid_is adds.2),
    )

    moments_behind : EachSince time mid new (RunAt mid (line ∷ rest)) → EachSince time old new (RunAt old (line ∷ rest))
    unfolding first
    moments_behind moments = joined time state (RunAt old (line ∷ rest)) old mid new
        (weaken time state (StaysOrSame (state old)) (RunAt old (line ∷ rest)) old mid (stop_before old (line ∷ rest) sound firm) recovers.moments)
        (weaken time state (RunAt mid (line ∷ rest)) (RunAt old (line ∷ rest)) mid new (λ m o adds. adds_alike (recovered_view m ∷ []) o Stopped adds) moments)

    refused_alike : any_refused (recovered_views (state mid)) (line ∷ rest) ≡ any_refused first (line ∷ rest)
    refused_alike =
        refused-is (recovered_views (state mid)) (line ∷ rest)
        ∙ ap (λ x. some_refused x (line ∷ rest)) (ap latest_view mid_is ∙ sym last)
        ∙ sym (refused-is first (line ∷ rest))

    -- a run over the lines that were found is one from the start
    pub runs_behind : (result : Result Bool RunError) → RunsTo time state mid new (line ∷ rest) result
        → RunsTo time state old new (line ∷ rest) result
    unfolding first
    runs_behind (Ok refused) runs = record {
      firm = runs.firm;
      ok = record {
        state = runs.ok.state ∙ ap (λ s. states s (line ∷ rest)) mid_is ∙ states_alike v first last inside line command rest;
        printed = runs.ok.printed
            ∙ ap (λ (l : Sent). l ++ printed_by (recovered_views (state mid)) (line ∷ rest)) printed
            ∙ ap (λ (l : Sent). (state old).printed ++ l)
            (said_latest (recovered_views (state mid)) first (line ∷ rest) (ap latest_view mid_is ∙ sym last));
        answer = runs.ok.answer ∙ refused_alike;
      };
      err = tt;
      moments = moments_behind runs.moments;
    }
    runs_behind (Err stop) runs = record {
      firm = runs.firm;
      ok = tt;
      err = adds_alike (recovered_views (state new)) (state new).printed (end_of stop) runs.err;
      moments = moments_behind runs.moments;
    }

    -- and from the sync of the names on one from the files as they were
    pub synced_behind : (result : Result Bool RunError) → SameFrom time state old mid → RunsTo time state mid new (line ∷ rest) result
        → IsSyncedBy time state old new (line ∷ rest)
    unfolding first
    synced_behind result from runs = inr (record {
      synced = from.synced;
      one = from.one;
      before = weaken time state (IsIdleMoment (state old)) (IsUnsynced (state old) (line ∷ rest)) old from.synced (unsynced_yet (state old) (line ∷ rest)) from.until;
      after = joined time state (RunsAfresh (state old) (line ∷ rest)) from.synced mid new
          (weaken time state (SeesSame (state old)) (RunsAfresh (state old) (line ∷ rest)) from.synced mid (afresh old (line ∷ rest)) from.from)
          (weaken time state (RunAt mid (line ∷ rest)) (RunsAfresh (state old) (line ∷ rest)) mid new behind runs.moments);
    })
      where
        behind : (m : Files) (o : Sent) → RunAt mid (line ∷ rest) m o → RunsAfresh (state old) (line ∷ rest) m o
        behind m o adds = (
          adds.0,
          adds.1 ∙ ap (λ (l : Sent). l ++ adds.0) printed,
          subst (λ s. Runs s (line ∷ rest) (recovered_view m ∷ []) adds.0 Stopped) (mid_is ∙ ap (λ (x : Files). x ∷ []) (sym last)) adds.2,
        )

  -- the lines weren't found: the recovery may be all that was done
  pub runs_not : (old new : D) (line : Line) (rest : List Line) (result : Result Bool RunError) (stop : RunError) → IsErr result → IsErrAnd result (λ e. e ≡ stop)
      → IsSound (state old) → IsFirm (state old) → RecoversTo time state old new → (state new).printed ≡ (state old).printed
      → RunsTo time state old new (line ∷ rest) result
  runs_not old new line rest result stop failed is sound firm recovers printed =
      let given = performed_not time state old new (line_deed (latest_view (recovered_views (state old))) line) stop sound firm recovers printed in
      record {
        firm = recovers.firm;
        ok = if_ok result _ failed;
        err = if_err result stop _ is (
          given.err.0,
          given.err.1,
          record { whole = 0; within = omega arith; part = given.err.0; printed = refl; ends = given.err.2 },
        );
        moments = weaken time state (StaysOrSame (state old)) (RunAt old (line ∷ rest)) old new (stop_before old (line ∷ rest) sound firm) recovers.moments;
      }

  pub synced_not : (old new : D) (lines : List Line) → RecoversTo time state old new → IsSyncedBy time state old new lines
  synced_not old new lines recovers = ⊎_elim
      (λ (reads : OnlyReads time state old new).
      inl (weaken time state (IsIdleMoment (state old)) (IsUnsynced (state old) lines) old new (unsynced_yet (state old) lines) reads.moments))
      (λ (settled : IsSettled (state new) × SameFrom time state old new). inr (record {
        synced = settled.1.synced;
        one = settled.1.one;
        before = weaken time state (IsIdleMoment (state old)) (IsUnsynced (state old) lines) old settled.1.synced (unsynced_yet (state old) lines) settled.1.until;
        after = weaken time state (SeesSame (state old)) (RunsAfresh (state old) lines) settled.1.synced new (afresh old lines) settled.1.from;
      }))
      recovers.synced

-- reads behind a recovery
module _ {D : Type 0} (time : Timeline D) (state : D → State) (old mid new : D) (recovers : RecoversTo time state old mid)
    (sound : IsSound (state mid)) (one : HasOneCandidate (state mid)) (printed : (state mid).printed ≡ (state old).printed) (reads : OnlyReads time state mid new) where
  idle_same : (m : Files) (o : Sent) → IsIdleMoment (state mid) m o → SeesSame (state old) m o
  idle_same m o idle = (
    only_view (state mid) (recovered_view m) one (sees (state mid) sound recovers.firm m idle.0) ∙ recovers.files,
    idle.1 ∙ printed,
  )

  pub same_more : SameFrom time state old mid → SameFrom time state old new
  same_more from = record {
    synced = from.synced;
    until = from.until;
    one = from.one;
    files = from.files;
    from = joined time state (SeesSame (state old)) from.synced mid new from.from
        (weaken time state (IsIdleMoment (state mid)) (SeesSame (state old)) mid new idle_same reads.moments);
  }

  pub recovers_more : RecoversTo time state old new
  recovers_more = record {
    moments = joined time state (StaysOrSame (state old)) old mid new recovers.moments
        (weaken time state (IsIdleMoment (state mid)) (StaysOrSame (state old)) mid new
        (λ m o idle. let same = idle_same m o idle in (inr same.0, same.1)) reads.moments);
    firm = subst IsFirm (sym reads.same) recovers.firm;
    files = ap (λ (s : State). recovered_now s) reads.same ∙ recovers.files;
    synced = ⊎_elim
        (λ (before : OnlyReads time state old mid). inl (record {
          same = reads.same ∙ before.same;
          moments = joined time state (IsIdleMoment (state old)) old mid new before.moments
              (weaken time state (IsIdleMoment (state mid)) (IsIdleMoment (state old)) mid new
              (λ m o idle. subst (λ (s : State). IsIdleMoment s m o) before.same idle) reads.moments);
        }))
        (λ (settled : IsSettled (state mid) × SameFrom time state old mid). inr (subst IsSettled (sym reads.same) settled.0, same_more settled.1))
        recovers.synced;
  }
