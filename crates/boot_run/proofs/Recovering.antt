-- A recovery before a command.
use Rattle.std.proofs.Common.{◌≡◌, ◌⊎◌, inl, inr, ⊎_elim, true, List, [], ◌∷◌, ◌++◌, refl, sym, ap, ◌∙◌, subst, Result, Ok, Err, append-nil, IsErr}
use Rattle.boot_machine.specs.Prelude.{Files, State, HasOneCandidate, IsIn, IsRested, IsSound, candidates, recovered_view, IsFirm, IsSettled, Timeline, EachSince, OnlyReads, Sent, Adds, latest_view, recovered_now, recovered_views, seen}
use Rattle.boot_machine.proofs.Elapsing.{weaken, joined}
use Rattle.boot_machine.proofs.Seeing.{candidate_image, from_views, latest_view-recovered_views, one_view, recovered_now_in, sees}
use Rattle.boot_machine.proofs.Recovering.{recovered_view-calm}
use Rattle.install_steps.specs.Recovery.{RecoversTo, SameFrom, SeesSame, StaysOrSame}
use Rattle.command_plans.specs.Prelude.{Deed, End, Stopped, Finished, NoMemory, DiskFails, PipeFails, left_by, Stays, Acts, Breaks, Performs, end_of}
use Rattle.command_plans.specs.declared.outcome.Outcome.{Outcome}
use Rattle.command_plans.specs.declared.outcome.RunError.{RunError}
use Rattle.command_plans.specs.declared.outcome.RunError.TheVariants.{Disk, Pipe, Memory}
use Rattle.command_plans.proofs.Exits.{not_ok, on_err}
use Rattle.boot_run.specs.History.{AllAre, BreaksBehind}
use Rattle.boot_run.specs.Lines.{line_deed}
use Rattle.boot_run.specs.RunsTo.{PerformsBehind, SyncsBefore, SyncsFirst}
use Rattle.boot_run.specs.declared.line.Line.{Line}

left_settles : (a b : List Files) (deed : Deed) → deed.settles ≡ true → left_by deed a ≡ left_by deed b
left_settles a b deed settles = rw settles refl

one_is : (x v : Files) → IsIn x (v ∷ []) → x ≡ v
one_is x v is = ⊎_elim (λ here. here) (λ none. absurd none) is

-- what broke off in a deed from the one recovered_view broke off in it from the state, or the recovery was all
module _ (v : Files) (old : List Files) (last : latest_view old ≡ v) (inside : IsIn v old) (deed : Deed) (settles : deed.settles ≡ true) where
  all_are : (new : List Files) → new ≡ v ∷ [] → AllAre (latest_view old) new
  all_are new is x x_in = one_is x v (subst (IsIn x) is x_in) ∙ sym last

  stays_after : (new : List Files) (part : Sent) (end : End) → part ≡ [] → Stays (v ∷ []) new end → BreaksBehind deed old new part end
  stays_after new part Stopped nil stays = inl (inl (nil, (stays.0, stays.1, subst (λ x. IsIn x old) (sym (one_is stays.0 v stays.2)) inside)))
  stays_after new part NoMemory nil stays = inr (nil, all_are new stays)
  stays_after new part DiskFails nil stays = inr (nil, all_are new stays)
  stays_after new part PipeFails nil stays = inr (nil, all_are new stays)
  stays_after new part Finished nil stays = absurd stays

  acts_after : (new : List Files) (part : Sent) (end : End) → Acts deed (v ∷ []) new part end → Acts deed old new part end
  acts_after new part Stopped acts = (acts.0, (acts.1.0, acts.1.1, subst (IsIn acts.1.0) (left_settles (v ∷ []) old deed settles) acts.1.2))
  acts_after new part PipeFails acts = (acts.0, acts.1 ∙ left_settles (v ∷ []) old deed settles)
  acts_after new part DiskFails acts = (acts.0, λ x is. ⊎_elim (λ was. inl (was ∙ sym last)) (λ now. inr now) (acts.1 x is))
  acts_after new part NoMemory acts = absurd acts
  acts_after new part Finished acts = absurd acts

  pub broken_after : (new : List Files) (part : Sent) (end : End) → Breaks deed (v ∷ []) new part end → BreaksBehind deed old new part end
  broken_after new part end (inl stays) = stays_after new part end stays.0 stays.1
  broken_after new part end (inr acts) = inl (inr (acts_after new part end acts))

  pub stopped_after : (new : List Files) (part : Sent) → Breaks deed (v ∷ []) new part Stopped → Breaks deed old new part Stopped
  stopped_after new part breaks = ⊎_elim (λ broke. broke) (λ none. absurd none.1) (broken_after new part Stopped breaks)

module _ {D : Type 0} (time : Timeline D) (state : D → State) where
  abbrev StopIn : D → Deed → Files → Sent → Type 0
  StopIn old deed image sent = Adds (state old).printed sent (λ part. Breaks deed (recovered_views (state old)) (recovered_view image ∷ []) part Stopped)

  -- what a stop leaves of a deed that began with the files as they were
  abbrev StopAfresh : D → Deed → Files → Sent → Type 0
  StopAfresh old deed image sent = Adds (state old).printed sent (λ part. Breaks deed (latest_view (recovered_views (state old)) ∷ []) (recovered_view image ∷ []) part Stopped)

  afresh : (old : D) (deed : Deed) (m : Files) (o : Sent) → SeesSame (state old) m o → StopAfresh old deed m o
  afresh old deed m o same = ([], same.1 ∙ sym (append-nil (state old).printed), inl (refl, (recovered_view m, refl, inl (same.0 ∙ sym (latest_view-recovered_views (state old))))))

  -- a stop in a recovery is one before the deed
  stop_before : (old : D) (deed : Deed) → IsSound (state old) → IsFirm (state old) → (m : Files) (o : Sent) → StaysOrSame (state old) m o → StopIn old deed m o
  stop_before old deed sound firm m o stays = (
    [],
    stays.1 ∙ sym (append-nil (state old).printed),
    inl (refl, (recovered_view m, refl, ⊎_elim (sees (state old) sound firm m) (λ same. subst (λ x. IsIn x (recovered_views (state old))) (sym same) (recovered_now_in (state old))) stays.0)),
  )

  module _ (old mid new : D) (deed : Deed) (settles : deed.settles ≡ true) (sound : IsSound (state old)) (firm : IsFirm (state old))
      (recovers : RecoversTo time state old mid) (one : HasOneCandidate (state mid))
      (printed : (state mid).printed ≡ (state old).printed) where
    same_last : latest_view (recovered_views (state old)) ≡ recovered_now (state mid)
    same_last = latest_view-recovered_views (state old) ∙ sym recovers.files

    inside : IsIn (recovered_now (state mid)) (recovered_views (state old))
    inside = subst (λ x. IsIn x (recovered_views (state old))) (sym recovers.files) (recovered_now_in (state old))

    stopped : (m : Files) (o : Sent) → StopIn mid deed m o → StopIn old deed m o
    stopped m o adds = (
      adds.0,
      adds.1 ∙ ap (λ (l : Sent). l ++ adds.0) printed,
      stopped_after (recovered_now (state mid)) (recovered_views (state old)) same_last inside deed settles (recovered_view m ∷ []) adds.0
          (subst (λ (s : List Files). Breaks deed s (recovered_view m ∷ []) adds.0 Stopped) (one_view (state mid) one) adds.2),
    )

    moments_after : EachSince time mid new (StopIn mid deed) → EachSince time old new (StopIn old deed)
    moments_after moments = joined time state (StopIn old deed) old mid new
        (weaken time state (StaysOrSame (state old)) (StopIn old deed) old mid (stop_before old deed sound firm) recovers.moments)
        (weaken time state (StopIn mid deed) (StopIn old deed) mid new stopped moments)

    -- the deed behind it
    pub performed_after : (result : Result Outcome RunError) → Performs time state end_of mid new deed result → PerformsBehind time state old new deed result
    performed_after (Ok outcome) performs = record {
      firm = performs.firm;
      ok = (performs.ok.0, performs.ok.1 ∙ left_settles (recovered_views (state mid)) (recovered_views (state old)) deed settles, performs.ok.2 ∙ ap (λ (l : Sent). l ++ deed.sent) printed);
      err = tt;
      moments = moments_after performs.moments;
    }
    performed_after (Err stop) performs = record {
      firm = performs.firm;
      ok = tt;
      err = (
        performs.err.0,
        performs.err.1 ∙ ap (λ (l : Sent). l ++ performs.err.0) printed,
        broken_after (recovered_now (state mid)) (recovered_views (state old)) same_last inside deed settles (recovered_views (state new)) performs.err.0 (end_of stop)
            (subst (λ (s : List Files). Breaks deed s (recovered_views (state new)) performs.err.0 (end_of stop)) (one_view (state mid) one) performs.err.2),
      );
      moments = moments_after performs.moments;
    }

    -- from the sync of the names on, what a stop leaves began with the files as they were
    pub late_after : SameFrom time state old mid → EachSince time mid new (StopIn mid deed) → SyncsBefore time state old new deed
    late_after from moments = record {
      synced = from.synced;
      one = from.one;
      before = from.until;
      after = joined time state (StopAfresh old deed) from.synced mid new
          (weaken time state (SeesSame (state old)) (StopAfresh old deed) from.synced mid (afresh old deed) from.from)
          (weaken time state (StopIn mid deed) (StopAfresh old deed) mid new behind moments);
    }
      where
        behind : (m : Files) (o : Sent) → StopIn mid deed m o → StopAfresh old deed m o
        behind m o adds = (
          adds.0,
          adds.1 ∙ ap (λ (l : Sent). l ++ adds.0) printed,
          subst (λ (s : List Files). Breaks deed s (recovered_view m ∷ []) adds.0 Stopped) (one_view (state mid) one ∙ ap (λ (x : Files). x ∷ []) (sym same_last)) adds.2,
        )

    -- whatever the deed's answer
    pub synced_after : (result : Result Outcome RunError) → SameFrom time state old mid → EachSince time mid new (StopIn mid deed) → SyncsFirst time state old new deed result
    synced_after (Ok outcome) from moments = record { ok = late_after from moments; err = tt }
    synced_after (Err stop) from moments = record { ok = tt; err = inr (late_after from moments) }

  -- a recovery that is given up
  pub performed_not : (old new : D) (deed : Deed) (stop : RunError) → IsSound (state old) → IsFirm (state old) → RecoversTo time state old new
      → (state new).printed ≡ (state old).printed → PerformsBehind time state old new deed (Err stop)
  performed_not old new deed stop sound firm recovers printed = record {
    firm = recovers.firm;
    ok = tt;
    err = ([], printed ∙ sym (append-nil (state old).printed), given_up stop recovers.synced);
    moments = weaken time state (StaysOrSame (state old)) (StopIn old deed) old new (stop_before old deed sound firm) recovers.moments;
  }
    where
      all_same : IsSettled (state new) → AllAre (latest_view (recovered_views (state old))) (recovered_views (state new))
      all_same settled v is =
          let from = from_views (candidates (state new)) v is in
          from.2 ∙ settled.images from.0 (candidate_image (state new) from.0 from.1) ∙ recovers.files ∙ sym (latest_view-recovered_views (state old))

      none : Sent
      none = []

      given_up : (stop : RunError) → OnlyReads time state old new ⊎ (IsSettled (state new) × SameFrom time state old new)
          → BreaksBehind deed (recovered_views (state old)) (recovered_views (state new)) none (end_of stop)
      given_up Disk (inl reads) = inl (inl (refl, ap recovered_views reads.same))
      given_up Pipe (inl reads) = inl (inl (refl, ap recovered_views reads.same))
      given_up Memory (inl reads) = inl (inl (refl, ap recovered_views reads.same))
      given_up Disk (inr synced) = inr (refl, all_same synced.0)
      given_up Pipe (inr synced) = inr (refl, all_same synced.0)
      given_up Memory (inr synced) = inr (refl, all_same synced.0)

  -- where a call was given up
  pub performed_failed : (old new : D) (deed : Deed) (result : Result Outcome RunError) → IsErr result → IsSound (state old) → IsFirm (state old)
      → RecoversTo time state old new → (state new).printed ≡ (state old).printed → PerformsBehind time state old new deed result
  performed_failed old new deed (Ok outcome) failed sound firm recovers printed = cc
  performed_failed old new deed (Err stop) failed sound firm recovers printed = performed_not old new deed stop sound firm recovers printed

  -- and so much is synced then
  pub synced_failed : (old new : D) (deed : Deed) (result : Result Outcome RunError) → IsErr result → RecoversTo time state old new → SyncsFirst time state old new deed result
  synced_failed old new deed result failed recovers = record {
    ok = not_ok result _ failed;
    err = on_err result _ (⊎_elim (λ reads. inl reads) (λ synced. inr (late_alone synced.1)) recovers.synced);
  }
    where
      late_alone : SameFrom time state old new → SyncsBefore time state old new deed
      late_alone from = record {
        synced = from.synced;
        one = from.one;
        before = from.until;
        after = weaken time state (SeesSame (state old)) (StopAfresh old deed) from.synced new (afresh old deed) from.from;
      }

  -- no recovery is needed
  pub performed_plain : (old new : D) (deed : Deed) (result : Result Outcome RunError) → Performs time state end_of old new deed result → PerformsBehind time state old new deed result
  performed_plain old new deed (Ok outcome) performs = record { firm = performs.firm; ok = performs.ok; err = tt; moments = performs.moments }
  performed_plain old new deed (Err stop) performs = record { firm = performs.firm; ok = tt; err = (performs.err.0, performs.err.1, inl performs.err.2); moments = performs.moments }

  -- on a machine that is rested every command reads what boot sees once a recovery has run
  pub performed_rested : (old new : D) (line : Line) (result : Result Outcome RunError) → IsRested (state old) → Performs time state end_of old new (line_deed (seen (state old)) line) result
      → Performs time state end_of old new (line_deed (recovered_now (state old)) line) result
  performed_rested old new line result rested performs =
      subst (λ (v : Files). Performs time state end_of old new (line_deed v line) result) (sym (recovered_view-calm (state old).files rested))
      performs
